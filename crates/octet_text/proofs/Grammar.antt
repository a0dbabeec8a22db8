-- The reader accepts the hexadecimal texts, and no other.
use Rattle.std.proofs.Common.{◌≡◌, ℕ, ◌+◌, ◌*◌, ◌/◌, ◌%◌, ◌<◌, Bool, true, false, cond, eqb, List, [], ◌∷◌, ◌++◌, Some, None, Ok, Option, Result, sym, refl, ap, ◌∙◌, subst, arith}
use Rattle.std.specs.Option.{option_to_list}
use Rattle.std.specs.List.{flat_map, AllByRecursion}
use Rattle.std.proofs.lemmas.List.{append-nil, append_assoc}
use Rattle.std.proofs.lemmas.Bool.{eqb-true, cond_both}
use Rattle.std.proofs.lemmas.Bool.Decides.{nat_tests}
use Rattle.octet_text.specs.declared.fault.TextFault.{TextFault}
use Rattle.octet_text.specs.declared.position.Position.{Position}
use Rattle.octet_text.specs.declared.hear.Turn.{Turn}
use Rattle.octet_text.specs.declared.reader.State.{State}
use Rattle.octet_text.specs.declared.reader.State.TheVariants.{BetweenPairs, InsidePair, InComment}
use Rattle.frame.specs.Digits.{digit_of, two_digits}
use Rattle.octet_text.specs.Digits.{value_of}
use Rattle.octet_text.specs.Lines.{spaced, pairs_of, line_of}
use Rattle.octet_text.specs.Positions.{newline, first_position, position_behind}
use Rattle.octet_text.specs.Promises.{newlines, Writes, nothing, white_space, pair, comment, last_comment, Octets, ReadsHexadecimalText, CommentLinesDoNotMatter, LinesReadBack}
use Rattle.octet_text.specs.Reading.{reading, white, comment_sign, turn, first_of_pair, second_of_pair, begun, heard, moved, and_then, read_on, concluded, read_all}

-- the octets of a text, behind those that were read before it
abbrev pub resume : State → Position → List ℕ → List ℕ → Result (List ℕ) TextFault
resume s p so_far text = and_then (read_on (reading s p) so_far text) concluded

resume_step : (s : State) (p : Position) (so_far : List ℕ) (c : ℕ) (cs : List ℕ) (t : Turn) → heard s c ≡ Some t
    → resume s p so_far (c ∷ cs) ≡ resume t.state (position_behind p c) (so_far ++ option_to_list t.octet) cs
resume_step s p so_far c cs t e =
    ap (λ o. and_then (and_then (moved p c o) (λ n. read_on n.next (so_far ++ option_to_list n.octet) cs)) concluded) e

-- a character that ends no pair
resume_on : (s : State) (p : Position) (so_far : List ℕ) (c : ℕ) (cs : List ℕ) (next : State) → heard s c ≡ Some (turn next None)
    → resume s p so_far (c ∷ cs) ≡ resume next (position_behind p c) so_far cs
resume_on s p so_far c cs next e =
    resume_step s p so_far c cs (turn next None) e ∙ ap (λ octets. resume next (position_behind p c) octets cs) (append-nil so_far)

white_begins : (c : ℕ) → white c ≡ true → begun c ≡ Some (turn BetweenPairs None)
white_begins c e =
    ap (λ b. cond b (Some (turn BetweenPairs None)) (cond (eqb c comment_sign) (Some (turn InComment None)) (first_of_pair (value_of c)))) e

digit_begins : (c v : ℕ) → value_of c ≡ Some v → begun c ≡ Some (turn (InsidePair v) None)
digit_begins c v e = grind (arith, nat_tests)

-- what a text gives, wherever it stands and whatever was read before it
Gives : State → List ℕ → List ℕ → Type 0
Gives s text octets = (p : Position) (so_far : List ℕ) → resume s p so_far text ≡ Ok (so_far ++ octets)

no_newline : (c : ℕ) (cs : List ℕ) → newlines (c ∷ cs) ≡ 0 → (eqb c newline ≡ false) × (newlines cs ≡ 0)
no_newline c cs h = (grind (arith, nat_tests), omega arith)

remark_read : (remark text octets : List ℕ) → newlines remark ≡ 0 → Gives InComment text octets → Gives InComment (remark ++ text) octets
unfolding Gives
remark_read [] text octets h g p so_far = g p so_far
remark_read (c ∷ cs) text octets h g p so_far =
    let n = no_newline c cs h in
    resume_on InComment p so_far c (cs ++ text) InComment (ap (λ b. Some (turn (cond b BetweenPairs InComment) None)) n.0)
    ∙ remark_read cs text octets n.1 g (position_behind p c) so_far

written_read : {text octets : List ℕ} → Writes text octets → (p : Position) (so_far : List ℕ) → resume BetweenPairs p so_far text ≡ Ok (so_far ++ octets)
unfolding Gives
written_read nothing p so_far = ap Ok (sym (append-nil so_far))
written_read (white_space {c} {text} {octets} e w) p so_far =
    resume_on BetweenPairs p so_far c text BetweenPairs (white_begins c e) ∙ written_read w (position_behind p c) so_far
written_read (pair {a} {b} {v} {w} {text} {octets} e f more) p so_far =
    resume_on BetweenPairs p so_far a (b ∷ text) (InsidePair v) (digit_begins a v e)
    ∙ resume_step (InsidePair v) (position_behind p a) so_far b text (turn BetweenPairs (Some (v * 16 + w))) (ap (second_of_pair v) f)
    ∙ written_read more (position_behind (position_behind p a) b) (so_far ++ (v * 16 + w) ∷ [])
    ∙ ap Ok (append_assoc so_far ((v * 16 + w) ∷ []) octets)
written_read (comment {text} {octets} remark h w) p so_far =
    resume_on BetweenPairs p so_far comment_sign (remark ++ newline ∷ text) InComment refl
    ∙ remark_read remark (newline ∷ text) octets h
    (λ q before. resume_on InComment q before newline text BetweenPairs refl ∙ written_read w (position_behind q newline) before)
    (position_behind p comment_sign) so_far
written_read (last_comment remark h) p so_far =
    resume_on BetweenPairs p so_far comment_sign remark InComment refl
    ∙ ap (λ text. resume InComment (position_behind p comment_sign) so_far text) (sym (append-nil remark))
    ∙ remark_read remark [] [] h (λ q before. ap Ok (sym (append-nil before))) (position_behind p comment_sign) so_far

-- what a text writes where it goes on in a state
data Continues : State → List ℕ → List ℕ → Type 0 where
  between : {text octets : List ℕ} → Writes text octets → Continues BetweenPairs text octets
  inside : {v c w : ℕ} {text octets : List ℕ} → value_of c ≡ Some w → Writes text octets → Continues (InsidePair v) (c ∷ text) ((v * 16 + w) ∷ octets)
  remark_ends : {text octets : List ℕ} (remark : List ℕ) → newlines remark ≡ 0 → Writes text octets → Continues InComment (remark ++ newline ∷ text) octets
  remark_last : (remark : List ℕ) → newlines remark ≡ 0 → Continues InComment remark []

-- a character in front of such a text
Precedes : State → ℕ → Option Turn → Type 0
Precedes s c o = (t : Turn) (text octets : List ℕ) → o ≡ Some t → Continues t.state text octets → Continues s (c ∷ text) (option_to_list t.octet ++ octets)

precedes_by : (s : State) (c : ℕ) (t : Turn) → ((text octets : List ℕ) → Continues t.state text octets → Continues s (c ∷ text) (option_to_list t.octet ++ octets)) → Precedes s c (Some t)
unfolding Precedes
precedes_by s c t h = λ u text octets e. subst (λ (t : Turn). Continues t.state text octets → Continues s (c ∷ text) (option_to_list t.octet ++ octets)) (cc) (h text octets)

precedes_none : (s : State) (c : ℕ) → Precedes s c None
unfolding Precedes
precedes_none s c = λ t text octets e k. let z : ◌≡◌ {A = ℕ} 0 1 = cc in absurd (omega arith)

white_precedes : (c : ℕ) → white c ≡ true → (text octets : List ℕ) → Continues BetweenPairs text octets → Continues BetweenPairs (c ∷ text) octets
white_precedes c e text octets (between w) = between (white_space e w)

comment_precedes : (text octets : List ℕ) → Continues InComment text octets → Continues BetweenPairs (comment_sign ∷ text) octets
comment_precedes text octets (remark_ends remark h w) = between (comment remark h w)
comment_precedes text octets (remark_last remark h) = between (last_comment remark h)

first_precedes : (c v : ℕ) → value_of c ≡ Some v → (text octets : List ℕ) → Continues (InsidePair v) text octets → Continues BetweenPairs (c ∷ text) octets
first_precedes c v e text octets (inside f w) = between (pair e f w)

second_precedes : (v c w : ℕ) → value_of c ≡ Some w → (text octets : List ℕ) → Continues BetweenPairs text octets → Continues (InsidePair v) (c ∷ text) ((v * 16 + w) ∷ octets)
second_precedes v c w e text octets (between k) = inside e k

newline_precedes : (text octets : List ℕ) → Continues BetweenPairs text octets → Continues InComment (newline ∷ text) octets
newline_precedes text octets (between w) = remark_ends [] refl w

remark_precedes : (c : ℕ) → eqb c newline ≡ false → (text octets : List ℕ) → Continues InComment text octets → Continues InComment (c ∷ text) octets
remark_precedes c e text octets (remark_ends remark h w) = remark_ends (c ∷ remark) (grind (arith, nat_tests)) w
remark_precedes c e text octets (remark_last remark h) = remark_last (c ∷ remark) (grind (arith, nat_tests))

digit_precedes : (c : ℕ) (o : Option ℕ) → value_of c ≡ o → Precedes BetweenPairs c (first_of_pair o)
digit_precedes c None e = precedes_none BetweenPairs c
digit_precedes c (Some v) e = precedes_by BetweenPairs c (turn (InsidePair v) None) (first_precedes c v e)

ending_precedes : (v c : ℕ) (o : Option ℕ) → value_of c ≡ o → Precedes (InsidePair v) c (second_of_pair v o)
ending_precedes v c None e = precedes_none (InsidePair v) c
ending_precedes v c (Some w) e = precedes_by (InsidePair v) c (turn BetweenPairs (Some (v * 16 + w))) (second_precedes v c w e)

sign_precedes : (c : ℕ) → eqb c comment_sign ≡ true → Precedes BetweenPairs c (Some (turn InComment None))
sign_precedes c e =
    precedes_by BetweenPairs c (turn InComment None)
    (λ text octets k. subst (λ (n : ℕ). Continues BetweenPairs (n ∷ text) octets) (sym (eqb-true c comment_sign e)) (comment_precedes text octets k))

comment_goes_on : (c : ℕ) (b : Bool) → eqb c newline ≡ b → Precedes InComment c (Some (turn (cond b BetweenPairs InComment) None))
comment_goes_on c true e =
    precedes_by InComment c (turn BetweenPairs None)
    (λ text octets k. subst (λ (n : ℕ). Continues InComment (n ∷ text) octets) (sym (eqb-true c newline e)) (newline_precedes text octets k))
comment_goes_on c false e = precedes_by InComment c (turn InComment None) (remark_precedes c e)

heard_precedes : (s : State) (c : ℕ) → Precedes s c (heard s c)
heard_precedes BetweenPairs c =
    cond_both (white c) (Some (turn BetweenPairs None)) (cond (eqb c comment_sign) (Some (turn InComment None)) (first_of_pair (value_of c))) (Precedes BetweenPairs c)
    (λ e. precedes_by BetweenPairs c (turn BetweenPairs None) (white_precedes c e))
    (λ _. cond_both (eqb c comment_sign) (Some (turn InComment None)) (first_of_pair (value_of c)) (Precedes BetweenPairs c)
    (sign_precedes c)
    (λ _. digit_precedes c (value_of c) refl))
heard_precedes (InsidePair v) c = ending_precedes v c (value_of c) refl
heard_precedes InComment c = comment_goes_on c (eqb c newline) refl

-- the octets that a text adds to those read before it
Adds : State → List ℕ → List ℕ → List ℕ → Type 0
Adds s text so_far octets = (added : List ℕ) × (octets ≡ so_far ++ added) × Continues s text added

ended_adds : (s : State) (p : Position) (so_far octets : List ℕ) → resume s p so_far [] ≡ Ok octets → Adds s [] so_far octets
unfolding Adds
ended_adds BetweenPairs p so_far octets e = ([], cc (append-nil so_far), between nothing)
ended_adds (InsidePair v) p so_far octets e = let z : ◌≡◌ {A = ℕ} 0 1 = cc in absurd (omega arith)
ended_adds InComment p so_far octets e = ([], cc (append-nil so_far), remark_last [] refl)

read_adds : (text : List ℕ) (s : State) (p : Position) (so_far octets : List ℕ) → resume s p so_far text ≡ Ok octets → Adds s text so_far octets
unfolding Adds Precedes
read_adds [] s p so_far octets e = ended_adds s p so_far octets e
read_adds (c ∷ cs) s p so_far octets e =
    elim (heard s c) as (λ o. heard s c ≡ o → and_then (and_then (moved p c o) (λ n. read_on n.next (so_far ++ option_to_list n.octet) cs)) concluded ≡ Ok octets → Adds s (c ∷ cs) so_far octets) [
      | None ↦ λ h k. let z : ◌≡◌ {A = ℕ} 0 1 = cc in absurd (omega arith)
      | Some t ↦ λ h k.
          let a = read_adds cs t.state (position_behind p c) (so_far ++ option_to_list t.octet) octets k in
          (option_to_list t.octet ++ a.0, a.1 ∙ append_assoc so_far (option_to_list t.octet) a.0, heard_precedes s c t cs a.0 h a.2)
    ]
    refl e

between_writes : {text octets : List ℕ} → Continues BetweenPairs text octets → Writes text octets
between_writes (between w) = w

read_written : (text octets : List ℕ) → read_all text ≡ Ok octets → Writes text octets
unfolding Adds
read_written text octets e =
    let a = read_adds text BetweenPairs first_position [] octets e in
    subst (λ (o : List ℕ). Writes text o) (sym a.1) (between_writes a.2)

pub reads_hexadecimal_text : ReadsHexadecimalText
reads_hexadecimal_text text octets = (read_written text octets, λ w. written_read w first_position [])

pub comment_lines_do_not_matter : CommentLinesDoNotMatter
comment_lines_do_not_matter remark text octets h e = written_read (comment remark h (read_written text octets e)) first_position []

digit_reads_back : (v : ℕ) → v < 16 → value_of (digit_of v) ≡ Some v
digit_reads_back v h = grind (arith, nat_tests)

-- the digits of an octet write it, in front of any text
octet_written : (x : ℕ) (text octets : List ℕ) → x < 256 → Writes text octets → Writes (two_digits x ++ text) (x ∷ octets)
octet_written x text octets h w =
    let high = digit_reads_back (x / 16) (omega arith) in
    let low = digit_reads_back (x % 16) (omega arith) in
    let whole : (x / 16) * 16 + x % 16 ≡ x = omega arith in
    subst (λ (n : ℕ). Writes (two_digits x ++ text) (n ∷ octets)) whole (pair high low w)

spaced_written : (xs text octets : List ℕ) → Octets xs → Writes text octets → Writes (spaced xs ++ text) (xs ++ octets)
spaced_written [] text octets h w = w
spaced_written (x ∷ xs) text octets h w =
    white_space refl (octet_written x (spaced xs ++ text) (xs ++ octets) h.0 (spaced_written xs text octets h.1 w))

pairs_written : (xs text octets : List ℕ) → Octets xs → Writes text octets → Writes (pairs_of xs ++ text) (xs ++ octets)
pairs_written [] text octets h w = w
pairs_written (x ∷ xs) text octets h w =
    octet_written x (spaced xs ++ text) (xs ++ octets) h.0 (spaced_written xs text octets h.1 w)

lines_written : (lines : List (List ℕ)) → AllByRecursion Octets lines → Writes (flat_map line_of lines) (flat_map (λ xs. xs) lines)
lines_written [] h = nothing
lines_written (xs ∷ lines) h =
    subst (λ (text : List ℕ). Writes text (xs ++ flat_map (λ xs. xs) lines))
    (sym (append_assoc (pairs_of xs) (newline ∷ []) (flat_map line_of lines)))
    (pairs_written xs (newline ∷ flat_map line_of lines) (flat_map (λ xs. xs) lines) h.0 (white_space refl (lines_written lines h.1)))

pub lines_read_back : LinesReadBack
lines_read_back lines h = written_read (lines_written lines h) first_position []
