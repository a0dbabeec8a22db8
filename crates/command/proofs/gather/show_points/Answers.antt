use Rattle.std.proofs.Common.{◌≡◌, ℕ, ◌+◌, ◌<◌, List, [], ◌∷◌, ◌++◌, length, get_or, take, sym, ap, ◌∙◌, arith}
use Rattle.std.proofs.lemmas.Grind.{common_steps}
use Rattle.std.proofs.lemmas.List.{take_more, take_all, append_assoc, append-nil}
use Rattle.command.specs.Points.{Point, octets_of}
use Rattle.command.specs.Readings.{all_octets}
use Rattle.command.proofs.gather.show_points.Goals as goal

octets-push : (ps : List Point) (p : Point) → all_octets (ps ++ p ∷ []) ≡ all_octets ps ++ octets_of p
octets-push [] p = append-nil (octets_of p)
octets-push (q ∷ ps) p = ap (λ (t : List ℕ). octets_of q ++ t) (octets-push ps p) ∙ sym (append_assoc (octets_of q) (all_octets ps) (octets_of p))

-- one point more
more : (ps : List Point) (new old octets : List ℕ) (i : ℕ) (d : Point) → i < length ps → octets ≡ octets_of (get_or ps i d) → old ≡ all_octets (take i ps) → new ≡ old ++ octets → new ≡ all_octets (take (i + 1) ps)
more ps new old octets i d h s inv e =
    e ∙ ap (λ (t : List ℕ). t ++ octets) inv ∙ ap (λ (t : List ℕ). all_octets (take i ps) ++ t) s
    ∙ sym (ap all_octets (take_more ps i d h) ∙ octets-push (take i ps) (get_or ps i d))

pub loop-point-preserved : goal.loop-point-preserved
loop-point-preserved c = (
  more c.args.points.now _ _ _ c.loop-point.point-index _ c.loop-point-test.true c.point_octets.ensures c.loop-point.invariant.0 c.push_octets.ensures,
  grind (arith, common_steps),
)

pub returns : goal.returns
returns c = c.loop-point.invariant.0 ∙ ap all_octets (take_all c.loop-point.point-index c.args.points.now c.loop-point-test.false)
