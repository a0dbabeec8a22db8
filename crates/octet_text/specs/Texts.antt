-- What the reading of text answers.
use Rattle.std.specs.Prelude.{◌≡◌, Ok, Err, Result}
use Rattle.octet_text.specs.declared.fault.TextFault.{TextFault}
use Rattle.octet_text.specs.declared.text.ReadFault.{ReadFault}
use Rattle.octet_text.specs.declared.text.ReadFault.TheVariants.{Text, Memory}

-- the fault of the text; of want of memory the text says nothing
abbrev pub Refuses : {B : Type 0} → ReadFault → Result B TextFault → Type 0
Refuses (Text f) given = given ≡ Err f
Refuses Memory given = Unit {0}

-- the answer has the value that the text gives, or its fault
abbrev pub Answers : {A B : Type 0} → Result A ReadFault → (A → B) → Result B TextFault → Type 0
Answers (Ok x) value given = given ≡ Ok (value x)
Answers (Err e) value given = Refuses e given
