-- What is known of a page, and what writing to it does.
use Rattle.std.specs.Borrow.{GName}
use Rattle.std.specs.Prelude.{◌≡◌, ℕ, List, ◌++◌}
use Rattle.devices.specs.Device.{Output}
use Rattle.devices.specs.declared.page.Page.{Page}
use Rattle.devices.specs.declared.sink.Sink.{Ghosts}

-- what is known of a page: which sink it is on, what was known of the sink when the page was made, and the text that was
-- written to the page since
pub record PageView : Type 0 where
  pub name : GName
  pub start : Output
  pub text : List ℕ

module _ {O : Type 0} {g : Ghosts O} where
  abbrev pub text_on : Page O g → List ℕ
  text_on page = page.taken ++ page.held.items ++ page.lost

  abbrev pub start_of : Page O g → Output
  start_of page = g.output page.start.value

  abbrev pub view_of : Page O g → PageView
  view_of page = record { name = page.out.ghost_name; start = start_of page; text = text_on page }

-- a page to which these octets were written, too
abbrev pub writes : List ℕ → PageView → PageView
writes octets view = record view { text = view.text ++ octets }

-- these octets were written to a page
abbrev pub Wrote : {O : Type 0} → {g : Ghosts O} → List ℕ → Page O g → Page O g → Type 0
Wrote octets old new = view_of new ≡ writes octets (view_of old)
