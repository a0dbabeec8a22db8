-- What a receiver is once the frame that it hands out is no longer held.
use Rattle.std.specs.Prelude.{◌≡◌, ⊤, ℕ, List, Ok, Some}
use Rattle.std.specs.Borrow.{follows_so, MutBor, Fml}
use mathlib.Core.Option.{none}
use Rattle.frame.specs.declared.receiver.Receiver.{Receiver}
use Rattle.frame.specs.contracts.receiver.Receiver.{the_row}
use Rattle.frame.specs.Reception.{Step, link_of}

-- it stands for the next link, and holds the octets of a frame that was told
abbrev pub RestsAt : MutBor Receiver → Step → Fml
RestsAt r s = follows_so the_row the_row r.ghost_name none (λ _ _. ⊤) (λ last. (link_of last ≡ s.next) × ((xs : List ℕ) → s.told ≡ Ok (Some xs) → last.octets.items ≡ xs))
