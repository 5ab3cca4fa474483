use Rattle.std.proofs.Common.{ap, ◌∙◌, sym, subst, w8}
use Rattle.std.proofs.lemmas.Simd.{swz_l, SwzOk}
use Rattle.octet_lanes.specs.Private.{order_of}
use Rattle.octet_lanes.proofs.Closing.{placed_16, places_ok_16, row_long, row_small}
use Rattle.octet_lanes.proofs.close.in_order.Goals as goal

pub swizzle : goal.swizzle
swizzle c = subst (λ places. SwzOk w8 16 16 0 places) (sym c.order.ensures) (places_ok_16 (order_of c.args.bits) (row_long c.args.bits c.requires) (row_small c.args.bits c.requires))

pub returns : goal.returns
returns c = ap (λ places. swz_l w8 16 c.args.group 0 places) c.order.ensures ∙ placed_16 c.args.group (order_of c.args.bits) (row_long c.args.bits c.requires) (row_small c.args.bits c.requires)
