-- One turn of each loop.
use Rattle.std.proofs.Common.{◌≡◌, ℕ, ◌+◌, ◌<◌, List, [], ◌∷◌, ◌++◌, length, get_or, drop, Ok, Err, Result, sym, refl, ap, ◌∙◌}
use Rattle.std.proofs.lemmas.List.{at_drop_all, at_drop_more}
use Rattle.std.specs.Option.{option_to_list}
use Rattle.octet_text.specs.declared.fault.TextFault.{TextFault}
use Rattle.octet_text.specs.declared.text.ReadFault.{ReadFault}
use Rattle.octet_text.specs.declared.text.ReadFault.TheVariants.{Text, Memory}
use Rattle.octet_text.specs.Texts.{Refuses}
use Rattle.octet_text.specs.Reading.{Reading, Progress, and_then, read_one, read_on}

-- a text in two parts
pub read_on-append : (r : Reading) (octets xs ys : List ℕ) → read_on r octets (xs ++ ys) ≡ and_then (read_on r octets xs) (λ p. read_on p.reader p.octets ys)
read_on-append r octets [] ys = refl
read_on-append r octets (c ∷ cs) ys =
    elim (read_one r c) as (λ g. and_then g (λ s. read_on s.next (octets ++ option_to_list s.octet) (cs ++ ys)) ≡ and_then (and_then g (λ s. read_on s.next (octets ++ option_to_list s.octet) cs)) (λ p. read_on p.reader p.octets ys))
    [ Ok s ↦ read_on-append s.next (octets ++ option_to_list s.octet) cs ys | Err f ↦ refl ]

-- the next character of a text, and the rest
read_next : (r : Reading) (octets text : List ℕ) (i : ℕ) → i < length text
    → read_on r octets (drop i text) ≡ and_then (read_on r octets (get_or text i 0 ∷ [])) (λ p. read_on p.reader p.octets (drop (i + 1) text))
read_next r octets text i h = at_drop_more (read_on r octets) text i 0 h ∙ read_on-append r octets (get_or text i 0 ∷ []) (drop (i + 1) text)

pub read_more : (r : Reading) (octets text : List ℕ) (i : ℕ) (p : Progress) → i < length text
    → read_on r octets (get_or text i 0 ∷ []) ≡ Ok p
    → read_on r octets (drop i text) ≡ read_on p.reader p.octets (drop (i + 1) text)
read_more r octets text i p h e =
    read_next r octets text i h ∙ ap (λ g. and_then g (λ q. read_on q.reader q.octets (drop (i + 1) text))) e

read_refused : (r : Reading) (octets text : List ℕ) (i : ℕ) (f : TextFault) → i < length text
    → read_on r octets (get_or text i 0 ∷ []) ≡ Err f
    → read_on r octets (drop i text) ≡ Err f
read_refused r octets text i f h e =
    read_next r octets text i h ∙ ap (λ g. and_then g (λ q. read_on q.reader q.octets (drop (i + 1) text))) e

-- the fault of a character is that of the text
pub refuses_text : (e : ReadFault) (r : Reading) (octets text : List ℕ) (i : ℕ) (given : Result Progress TextFault) → i < length text
    → read_on r octets (drop i text) ≡ given
    → Refuses e (read_on r octets (get_or text i 0 ∷ []))
    → Refuses e given
refuses_text (Text f) r octets text i given h same a = sym same ∙ read_refused r octets text i f h a
refuses_text Memory r octets text i given h same a = tt

pub ruleset reading = (read_more, refuses_text, at_drop_all)
