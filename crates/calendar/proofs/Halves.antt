-- The half hours of the century.
use Rattle.std.proofs.Common.{◌≡◌, ℕ, zero, suc, ◌+◌, ◌-◌, ◌*◌, ◌/◌, ◌<◌, ◌≤◌, true, ltb, Some, None, Option, refl, ap, ◌∙◌, subst, ⊎_elim, arith, MatchOption}
use Rattle.std.proofs.lemmas.Bool.{cond_both, cases_lt, ltb-true, ltb-false}
use Rattle.std.proofs.lemmas.Bool.Decides.{not_from_Decides}
use Rattle.calendar.specs.Moment.{Moment, moment, exists, same_moment}
use Rattle.calendar.specs.Elapsed.{days_since_2000, seconds_since_2000, century}
use Rattle.calendar.specs.HalfHours.{half_hour_of, half_hour_on, last_half_hour, next_half_hour, then_next, half_hours_on}
use Rattle.calendar.proofs.Moments.{Exists, exists_from, at_time, decides_same}
use Rattle.calendar.proofs.Century.{On, hour_later, seconds_below, seconds_tell}

pub rounds_down : (m : Moment) → Exists m → seconds_since_2000 (half_hour_of m) ≡ seconds_since_2000 m / 1800 * 1800
unfolding half_hour_of seconds_since_2000
rounds_down m x =
    cond_both (ltb m.minute 30) 0 30 (λ k. seconds_since_2000 (moment m.year m.month m.day m.hour k 0) ≡ seconds_since_2000 m / 1800 * 1800)
    (λ e. omega (arith, ltb-true m.minute 30 e))
    (λ e. omega (arith, ltb-false m.minute 30 e))

half_hour_there : (m : Moment) → Exists m → Exists (half_hour_of m)
unfolding half_hour_of
half_hour_there m x =
    cond_both (ltb m.minute 30) 0 30 (λ k. Exists (moment m.year m.month m.day m.hour k 0))
    (λ e. at_time m m.hour 0 0 x x.within_day (omega arith) (omega arith))
    (λ e. at_time m m.hour 30 0 x x.within_day (omega arith) (omega arith))

half_hour_later : (m : Moment) → Exists m → On 1800 m (half_hour_on m)
unfolding seconds_since_2000
half_hour_later m x =
    let below = seconds_below m x in
    cond_both (ltb m.minute 30) _ _ (On 1800 m)
    (λ e.
    let l : m.minute < 30 = ltb-true m.minute 30 e in
    let there = at_time m m.hour (m.minute + 30) m.second x x.within_day (omega arith) x.within_minute in
    record { there = there; later = omega (arith, seconds_below _ there) })
    (λ e.
    let l : 30 ≤ m.minute = ltb-false m.minute 30 e in
    let o = hour_later _ (at_time m m.hour (m.minute - 30) m.second x x.within_day (omega arith) x.within_minute) in
    record { there = o.there; later = omega (arith, o.later) })

last_there : Exists last_half_hour
last_there =
    record {
      within_century = omega arith;
      from_january = omega arith;
      to_december = omega arith;
      from_first = omega arith;
      to_last = omega arith;
      within_day = omega arith;
      within_hour = omega arith;
      within_minute = omega arith;
    }

last_seconds : seconds_since_2000 last_half_hour + 1800 ≡ century
unfolding seconds_since_2000 days_since_2000
last_seconds = refl

-- r is the time at s seconds since 2000
record Found (s : ℕ) (r : Moment) : Type 0 where
  there : Exists r
  at : seconds_since_2000 r ≡ s

-- o is the time at s seconds since 2000, or none where the century has ended by then
At : ℕ → Option Moment → Type 0
At s o = MatchOption o (century ≤ s) (Found s)

next_at : (m : Moment) → Exists m → At (seconds_since_2000 (half_hour_of m) + 1800) (next_half_hour m)
unfolding At next_half_hour
next_at m x =
    let h : Moment = half_hour_of m in
    let there = half_hour_there m x in
    cond_both (same_moment h last_half_hour) None (Some (half_hour_on h)) (At (seconds_since_2000 h + 1800))
    (λ e. let same : seconds_since_2000 h ≡ seconds_since_2000 last_half_hour = ap seconds_since_2000 ((decides_same h last_half_hour).0 e) in omega (arith, last_seconds))
    (λ e.
    let o = half_hour_later h there in
    let before : seconds_since_2000 h + 1800 < century =
    ⊎_elim (λ l. l)
    (λ l.
    let same : seconds_since_2000 h ≡ seconds_since_2000 last_half_hour = omega (arith, rounds_down m x, seconds_below h there, last_seconds) in
    absurd (not_from_Decides (same_moment h last_half_hour) (decides_same h last_half_hour) e (seconds_tell h last_half_hour there last_there same)))
    (cases_lt (seconds_since_2000 h + 1800) century) in
    record { there = o.there; at = omega (arith, o.later) })

then_at : (s : ℕ) (o : Option Moment) → s / 1800 * 1800 ≡ s → At s o → At (s + 1800) (then_next o)
unfolding At
then_at s None whole past = omega (arith, past)
then_at s (Some r) whole found =
    let same : seconds_since_2000 (half_hour_of r) ≡ s =
    rounds_down r found.there ∙ ap (λ (k : ℕ). k / 1800 * 1800) found.at ∙ whole in
    subst (λ (k : ℕ). At (k + 1800) (next_half_hour r)) same (next_at r found.there)

half_hours_at : (n : ℕ) (m : Moment) → Exists m → At (seconds_since_2000 (half_hour_of m) + n * 1800) (half_hours_on n m)
unfolding At
half_hours_at zero m x = record { there = half_hour_there m x; at = omega arith }
half_hours_at (suc n) m x =
    let s : ℕ = seconds_since_2000 (half_hour_of m) + n * 1800 in
    let up : s + 1800 ≡ seconds_since_2000 (half_hour_of m) + suc n * 1800 = omega arith in
    subst (λ (k : ℕ). At k (half_hours_on (suc n) m)) up
    (then_at s (half_hours_on n m) (omega (arith, rounds_down m x)) (half_hours_at n m x))

told : (s : ℕ) (o : Option Moment) → At s o → MatchOption o (century ≤ s) (λ r. (exists r ≡ true) × (seconds_since_2000 r ≡ s))
unfolding At
told s None past = past
told s (Some r) found = (exists_from r found.there, found.at)

pub half_hours_end : (n : ℕ) (m : Moment) → Exists m → MatchOption (half_hours_on n m) (century ≤ seconds_since_2000 (half_hour_of m) + n * 1800) (λ r. (exists r ≡ true) × (seconds_since_2000 r ≡ seconds_since_2000 (half_hour_of m) + n * 1800))
half_hours_end n m x =
    told (seconds_since_2000 (half_hour_of m) + n * 1800) (half_hours_on n m) (half_hours_at n m x)
