-- The low eight bits of a sum.
use Rattle.std.proofs.Common.{◌≡◌, ℕ, ◌+◌, ◌%◌, List, [], ◌∷◌, sum, ◌∙◌, refl, arith}
use Rattle.std.specs.List.{fold}

-- low bits kept at each step are those of the whole sum
low_from : (s t : ℕ) (xs : List ℕ) → s ≡ t % 256 → fold (λ a x. (a + x) % 256) s xs ≡ fold (λ a x. a + x) t xs % 256
low_from s t [] e = e
low_from s t (x ∷ xs) e = low_from ((s + x) % 256) (t + x) xs (omega arith)

pub low_by_fold : (r : ℕ) (xs : List ℕ) → r ≡ fold (λ a x. (a + x) % 256) 0 xs → r ≡ sum xs % 256
low_by_fold r xs e = e ∙ low_from 0 0 xs refl
