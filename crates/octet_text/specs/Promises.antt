-- What holds of whole texts, in their own words.
use Rattle.std.specs.Prelude.{◌≡◌, ℕ, ◌+◌, ◌*◌, ◌^◌, ◌<◌, true, false, cond, List, [], ◌∷◌, ◌++◌, length, is_ok, Some, Ok, Err, ◌==◌}
use Rattle.std.specs.List.{flat_map, AllByRecursion}
use Rattle.octet_text.specs.declared.fault.TextFault.{TextFault}
use Rattle.octet_text.specs.declared.fault.TextProblem.{TextProblem}
use Rattle.octet_text.specs.declared.fault.TextProblem.TheVariants.{NotADigit, HalfAPair}
use Rattle.octet_text.specs.Digits.{value_of}
use Rattle.octet_text.specs.Lines.{line_of}
use Rattle.octet_text.specs.Positions.{newline}
use Rattle.octet_text.specs.Reading.{start, white, comment_sign, read_on, read_all}

-- how many newlines a text has
abbrev pub newlines : List ℕ → ℕ
newlines [] = 0
newlines (c ∷ cs) = cond (c == newline) 1 0 + newlines cs

-- what stands behind the last newline of a text, or all of it where it has none
abbrev pub behind_last_newline : List ℕ → List ℕ
behind_last_newline [] = []
behind_last_newline (c ∷ cs) = cond (newlines (c ∷ cs) == 0) (c ∷ cs) (behind_last_newline cs)

-- The hexadecimal texts, each with the octets that it writes.
pub data Writes : List ℕ → List ℕ → Type 0 where
  nothing : Writes [] []
  white_space : {c : ℕ} {text octets : List ℕ} → white c ≡ true → Writes text octets → Writes (c ∷ text) octets
  pair : {a b v w : ℕ} {text octets : List ℕ} → value_of a ≡ Some v → value_of b ≡ Some w → Writes text octets → Writes (a ∷ b ∷ text) ((v * 16 + w) ∷ octets)
  comment : {text octets : List ℕ} (remark : List ℕ) → newlines remark ≡ 0 → Writes text octets → Writes (comment_sign ∷ (remark ++ newline ∷ text)) octets
  last_comment : (remark : List ℕ) → newlines remark ≡ 0 → Writes (comment_sign ∷ remark) []

-- the texts that are read are the hexadecimal texts, and what is read of one is what it writes
abbrev pub ReadsHexadecimalText : Type 0
ReadsHexadecimalText = (text octets : List ℕ) → (read_all text ≡ Ok octets → Writes text octets) × (Writes text octets → read_all text ≡ Ok octets)

-- a comment line in front of a text changes nothing
abbrev pub CommentLinesDoNotMatter : Type 0
CommentLinesDoNotMatter = (remark text octets : List ℕ) → newlines remark ≡ 0 → read_all text ≡ Ok octets → read_all (comment_sign ∷ (remark ++ newline ∷ text)) ≡ Ok octets

-- each of the numbers is an octet
abbrev pub Octets : List ℕ → Type 0
Octets xs = AllByRecursion (λ x. x < 256) xs

-- lines that were written, one after another, are read as their octets, one after another
abbrev pub LinesReadBack : Type 0
LinesReadBack = (lines : List (List ℕ)) → AllByRecursion Octets lines → read_all (flat_map line_of lines) ≡ Ok (flat_map (λ xs. xs) lines)

-- no character of the text is refused; it may end inside a pair
abbrev pub Accepted : List ℕ → Type 0
Accepted text = is_ok (read_on start [] text) ≡ true

-- what is wrong behind the part `before` of a text: the next character, or that the text ends
abbrev pub Wrong : TextProblem → List ℕ → List ℕ → Type 0
Wrong NotADigit before rest = (c : ℕ) × (after : List ℕ) × (rest ≡ c ∷ after) × (is_ok (read_on start [] (before ++ c ∷ [])) ≡ false)
Wrong HalfAPair before rest = rest ≡ []

-- the place of a fault: just behind the part of the text that is accepted
pub record Stands (text : List ℕ) (fault : TextFault) : Type 0 where
  pub before : List ℕ
  pub rest : List ℕ
  pub whole : text ≡ before ++ rest
  pub accepted : Accepted before
  pub wrong : Wrong fault.problem before rest
  pub line_of_it : fault.line ≡ newlines before + 1
  pub column_of_it : fault.column ≡ length (behind_last_newline before) + 1

-- in a text so short that no counter stops, a fault stands where it is told
abbrev pub FaultsStandWhereTold : Type 0
FaultsStandWhereTold = (text : List ℕ) (fault : TextFault) → length text + 1 < 2 ^ 64 → read_all text ≡ Err fault → Stands text fault
