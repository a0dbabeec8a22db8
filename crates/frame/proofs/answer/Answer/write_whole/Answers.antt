use Rattle.std.proofs.Common.{◌≡◌, ℕ, List, [], ◌∷◌, ◌++◌, take, drop, sym, ap, ◌∙◌, arith}
use Rattle.std.proofs.lemmas.List.{take-append-drop}
use Rattle.std.proofs.lemmas.Slice.{between_is}
use Rattle.std.specs.List.{between}
use Rattle.frame.specs.Digits.{two_digits}
use Rattle.frame.specs.Checksum.{checksum_of}
use Rattle.frame.specs.Answers.{body_of, sealed, answer_of, read_back}
use Rattle.frame.proofs.Codes.{reads_back}
use Rattle.frame.proofs.answer.Answer.write_whole.Goals as goal

-- a front of STX and a body, sealed
sealed_is : (b body : List ℕ) (e : ℕ) → take e b ≡ 2 ∷ body → take e b ++ two_digits (checksum_of (between 1 e b)) ++ 13 ∷ [] ≡ sealed body
sealed_is b body e p =
    ap (λ (t : List ℕ). t ++ two_digits (checksum_of (between 1 e b)) ++ 13 ∷ []) p
    ∙ ap (λ (t : List ℕ). 2 ∷ (body ++ two_digits (checksum_of t) ++ 13 ∷ [])) (between_is b 1 e ∙ ap (drop 1) p)

-- a buffer whose front and rest are known
whole : (b front rest : List ℕ) (n : ℕ) → take n b ≡ front → drop n b ≡ rest → b ≡ front ++ rest
whole b front rest n p q = sym (take-append-drop n b) ∙ cc

pub returns : goal.returns
returns c =
    let address = c.args.self.now.address in
    let command = c.args.self.now.command in
    let content = c.args.self.now.content.now in
    let r = c.seal.result in
    let front : take r c.seal.new.buffer ≡ answer_of address command content =
    c.seal.ensures.front ∙ sealed_is c.write_body-end.new.buffer (body_of address command content) c.write_body-end.result c.write_body-end.ensures.front in
    let rest : drop r c.seal.new.buffer ≡ drop r c.args.buffer.now =
    c.seal.ensures.rest r (omega arith) ∙ c.write_body-end.ensures.rest r (omega arith) in
    record {
      length = omega arith;
      wrote = whole c.seal.new.buffer (answer_of address command content) (drop r c.args.buffer.now) r front rest;
      reads_back = ap read_back front ∙ reads_back address command content (omega arith) (omega arith);
    }
