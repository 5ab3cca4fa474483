-- The parts that actions store.
use Rattle.std.specs.Prelude.{◌<◌, length}
use Rattle.bytecode_format.specs.declared.action.Action.{Action}
use Rattle.bytecode_format.specs.declared.action.Action.TheVariants.{Keep, File, Store}
use Rattle.mime_decode.specs.Mail.{Mail}

-- an action that stores a part names one of the message
abbrev pub NamesPart : Mail → Action → Type 0
NamesPart mail Keep = Unit {0}
NamesPart mail (File folder) = Unit {0}
NamesPart mail (Store folder part) = part < length mail.parts
