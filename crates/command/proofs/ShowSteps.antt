-- What is pushed behind what, where the settings are shown.
use Rattle.std.proofs.Common.{◌≡◌, ℕ, ◌+◌, ◌-◌, ◌%◌, ◌<◌, ◌≤◌, Bool, true, false, cond, eqb, List, [], ◌∷◌, ◌++◌, length, get_or, take, drop, replicate, sym, refl, ap, ◌∙◌, arith}
use Rattle.std.specs.List.{between, AllByRecursion}
use Rattle.std.proofs.lemmas.List.{append_assoc, append-nil, length-append, length-replicate, length-map, length-take, length-drop, take-replicate, at_drop_more, at_drop_all}
use Rattle.std.proofs.ByRecursion.{All-get_or}
use Rattle.command.specs.declared.parts.Part.{Part}
use Rattle.command.specs.declared.parts.Part.TheVariants.{Number, Contract, Blank}
use Rattle.frame.specs.Digits.{two_digits, four_digits}
use Rattle.command.specs.Readings.{contract, sent_octet}
use Rattle.command.specs.Parts.{digit_count, LawfulPart, width_of, widths}
use Rattle.command.specs.Shown.{number_shown, part_shown, parts_shown}

-- one part more
pub shown_more : (page : List ℕ) (ps : List Part) (i : ℕ) (d : Part) (old new whole : List ℕ) → i < length ps
    → old ++ parts_shown page (drop i ps) ≡ whole → new ≡ old ++ part_shown page (get_or ps i d)
    → new ++ parts_shown page (drop (i + 1) ps) ≡ whole
shown_more page ps i d old new whole h inv e =
    ap (λ (xs : List ℕ). xs ++ parts_shown page (drop (i + 1) ps)) e
    ∙ append_assoc old (part_shown page (get_or ps i d)) (parts_shown page (drop (i + 1) ps))
    ∙ sym (at_drop_more (λ (qs : List Part). old ++ parts_shown page qs) ps i d h)
    ∙ inv

pub shown_all : (page : List ℕ) (ps : List Part) (i : ℕ) (xs whole : List ℕ) → length ps ≤ i → xs ++ parts_shown page (drop i ps) ≡ whole → xs ≡ whole
shown_all page ps i xs whole h inv =
    sym (at_drop_all (λ (qs : List Part). xs ++ parts_shown page qs) ps i h ∙ append-nil xs) ∙ inv

widths_at : (ps : List Part) (i : ℕ) (d : Part) → i < length ps → widths (drop i ps) ≡ width_of (get_or ps i d) + widths (drop (i + 1) ps)
widths_at ps i d h = at_drop_more widths ps i d h

pub room_for : (ps : List Part) (i : ℕ) (d : Part) (n whole : ℕ) → i < length ps → whole ≤ 556 → n + widths (drop i ps) ≡ whole → n + width_of (get_or ps i d) ≤ 556
room_for ps i d n whole h few inv = omega (arith, widths_at ps i d h)

pub widths_more : (ps : List Part) (i : ℕ) (d : Part) (old new whole : ℕ) → i < length ps → old + widths (drop i ps) ≡ whole → new ≡ old + width_of (get_or ps i d) → new + widths (drop (i + 1) ps) ≡ whole
widths_more ps i d old new whole h inv e = omega (arith, widths_at ps i d h)

pub contract_long : (page : List ℕ) → length page ≡ 28 → length (contract page) ≡ 10
contract_long page h = length-map (between 4 14 page) sent_octet ∙ simp (length-take, length-drop) (omega arith)

number_long : (width n : ℕ) → length (number_shown width n) ≡ digit_count width
number_long width n = go (eqb width 2)
  where
    go : (b : Bool) → length (cond b (two_digits (n % 256)) (48 ∷ four_digits n)) ≡ cond b 2 5
    go true = refl
    go false = refl

-- a part is as long as it is wide
part_long : (page : List ℕ) (p : Part) → length page ≡ 28 → LawfulPart p → length (part_shown page p) ≡ width_of p
part_long page (Number s) h l = number_long s.width (get_or page s.cell 0) ∙ l.digits
part_long page Contract h l = length-append (contract page) (48 ∷ 48 ∷ []) ∙ omega (arith, contract_long page h)
part_long page (Blank p w) h l = length-replicate w 70

pub part_longer : (page : List ℕ) (ps : List Part) (i : ℕ) (d : Part) (old new : List ℕ) → length page ≡ 28 → i < length ps → AllByRecursion LawfulPart ps
    → new ≡ old ++ part_shown page (get_or ps i d) → length new ≡ length old + width_of (get_or ps i d)
part_longer page ps i d old new h k l e =
    ap length e ∙ length-append old _ ∙ ap (λ n. length old + n) (part_long page (get_or ps i d) h (All-get_or LawfulPart ps i d k l))

-- a run of one octet, cut from a longer one
pub run_cut : (w n b : ℕ) → w ≤ n → between 0 w (replicate n b) ≡ replicate w b
run_cut w n b h = let e : w - 0 ≡ w = omega arith in ap (λ k. take k (replicate n b)) e ∙ take-replicate w n b h
