use Rattle.std.proofs.Common.{◌≡◌, ◌++◌, take, vec_items}
use Rattle.octet_text.specs.Lines.{spaced}
use Rattle.octet_text.proofs.line.push_spaced.Given as goal

abbrev pub invariant-loop-octet : goal.invariant-loop-octet
invariant-loop-octet l = vec_items l.line ≡ vec_items l.initial.line ++ spaced (take l.octet-index l.octets)
