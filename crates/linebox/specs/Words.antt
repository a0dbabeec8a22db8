-- The words that the program takes.
use Rattle.std.specs.Prelude.{ℕ, ◌+◌, Bool, cond, ◌&&◌, List, [], ◌∷◌, length, Some, None, Option, ◌==◌, slice_index}
use Rattle.linebox.specs.declared.options.Word.{Word}
use Rattle.linebox.specs.declared.options.Word.TheVariants.{Hex, Help}

-- a word is another, octet by octet from place i on
abbrev pub agrees : List ℕ → ℕ → List ℕ → Bool
agrees xs i [] = length xs == i
agrees xs i (y ∷ ys) = slice_index xs i == y && agrees xs (i + 1) ys

-- "--hex" and "--help"
abbrev pub word_meant : List ℕ → Option Word
word_meant xs =
    cond (agrees xs 0 (45 ∷ 45 ∷ 104 ∷ 101 ∷ 120 ∷ [])) (Some Hex)
    (cond (agrees xs 0 (45 ∷ 45 ∷ 104 ∷ 101 ∷ 108 ∷ 112 ∷ [])) (Some Help) None)
