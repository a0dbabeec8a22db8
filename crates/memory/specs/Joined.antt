-- Two memories as one.
use Rattle.std.specs.Prelude.{◌≡◌, ℕ, ◌≤◌, List, ◌++◌, length, take, Ok, Err, Result}
use Rattle.memory.specs.declared.MemoryRefusal.{MemoryRefusal}
use Rattle.memory.specs.declared.MemoryRefusal.TheVariants.{NoPage, NoCell}
use Rattle.memory.specs.declared.joined.Part.{Part}
use Rattle.memory.specs.declared.joined.Part.TheVariants.{First, Second}
use Rattle.memory.specs.Model.{answered, fetched, stored}

-- one memory's pages, then another's; what comes after the 65,535th is not seen
unfoldable pub one_after : List (List ℕ) → List (List ℕ) → List (List ℕ)
one_after xs ys = take 65535 (xs ++ ys)

-- fetching, and the answer to storing, are at the page p of ps what they are at the page q of qs
abbrev pub Alike : List (List ℕ) → ℕ → List (List ℕ) → ℕ → Type 0
Alike ps p qs q = ((c : ℕ) → fetched qs q c ≡ fetched ps p c) × ((c : ℕ) → answered qs q c (tt {0}) ≡ answered ps p c (tt {0}))

-- where the page p of two joined memories is found: fetching and storing there are fetching and storing at p; where it is not, the two have no page p
abbrev pub Leads : List (List ℕ) → List (List ℕ) → ℕ → Result Part MemoryRefusal → Type 0
Leads xs ys p (Ok (First q)) = Alike (one_after xs ys) p xs q × ((c v : ℕ) → one_after (stored xs q c v) ys ≡ stored (one_after xs ys) p c v)
Leads xs ys p (Ok (Second q)) = Alike (one_after xs ys) p ys q × ((c v : ℕ) → one_after xs (stored ys q c v) ≡ stored (one_after xs ys) p c v)
Leads xs ys p (Err NoPage) = length (one_after xs ys) ≤ p
Leads xs ys p (Err NoCell) = ⊥
