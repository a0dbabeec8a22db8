-- What the tests of a moment say.
use Rattle.std.proofs.Common.{◌≡◌, ℕ, ◌<◌, ◌≤◌, true, Decides, ap, arith}
use Rattle.std.proofs.lemmas.Bool.Decides.{nat_tests}
use Rattle.std.proofs.lemmas.Bool.Decides.{Decides-eqb, Decides-and, Decides-like}
use Rattle.calendar.specs.Calendar.{days_of_month}
use Rattle.calendar.specs.Moment.{Moment, moment, moment_of, exists, EveryTimeExists, same_moment}

pub record Exists (m : Moment) : Type 0 where
  pub within_century : m.year < 100
  pub from_january : 1 ≤ m.month
  pub to_december : m.month ≤ 12
  pub from_first : 1 ≤ m.day
  pub to_last : m.day ≤ days_of_month m.year m.month
  pub within_day : m.hour < 24
  pub within_hour : m.minute < 60
  pub within_minute : m.second < 60

pub exists_parts : (m : Moment) → exists m ≡ true → Exists m
unfolding exists
exists_parts m e =
    record {
      within_century = grind (arith, nat_tests);
      from_january = grind (arith, nat_tests);
      to_december = grind (arith, nat_tests);
      from_first = grind (arith, nat_tests);
      to_last = grind (arith, nat_tests);
      within_day = grind (arith, nat_tests);
      within_hour = grind (arith, nat_tests);
      within_minute = grind (arith, nat_tests);
    }

pub exists_from : (m : Moment) → Exists m → exists m ≡ true
unfolding exists
exists_from m h = grind (arith, nat_tests)

pub time_exists : EveryTimeExists
time_exists t =
    exists_from (moment_of t)
    record {
      within_century = t.within_century;
      from_january = t.from_january;
      to_december = t.to_december;
      from_first = t.from_first;
      to_last = t.to_last;
      within_day = t.within_day;
      within_hour = t.within_hour;
      within_minute = t.within_minute;
    }

-- another date at the same time of day, and another time of the same day
pub on_date : (m : Moment) (year month day : ℕ) → Exists m → year < 100 → 1 ≤ month → month ≤ 12 → 1 ≤ day → day ≤ days_of_month year month → Exists (moment year month day m.hour m.minute m.second)
on_date m year month day x y m1 m12 d1 dl =
    record {
      within_century = y;
      from_january = m1;
      to_december = m12;
      from_first = d1;
      to_last = dl;
      within_day = x.within_day;
      within_hour = x.within_hour;
      within_minute = x.within_minute;
    }

pub at_time : (m : Moment) (hour minute second : ℕ) → Exists m → hour < 24 → minute < 60 → second < 60 → Exists (moment m.year m.month m.day hour minute second)
at_time m hour minute second x h mi s =
    record {
      within_century = x.within_century;
      from_january = x.from_january;
      to_december = x.to_december;
      from_first = x.from_first;
      to_last = x.to_last;
      within_day = h;
      within_hour = mi;
      within_minute = s;
    }

pub decides_same : (m n : Moment) → Decides (same_moment m n) (m ≡ n)
unfolding same_moment
decides_same m n =
    let plain : Moment → Moment = λ o. moment o.year o.month o.day o.hour o.minute o.second in
    Decides-like _ (λ h. let e : plain m ≡ plain n = cc in e)
    (λ e. (ap (λ (o : Moment). o.year) e, (ap (λ (o : Moment). o.month) e, (ap (λ (o : Moment). o.day) e, (ap (λ (o : Moment). o.hour) e, (ap (λ (o : Moment). o.minute) e, ap (λ (o : Moment). o.second) e))))))
    (Decides-and _ _ (Decides-eqb m.year n.year)
    (Decides-and _ _ (Decides-eqb m.month n.month)
    (Decides-and _ _ (Decides-eqb m.day n.day)
    (Decides-and _ _ (Decides-eqb m.hour n.hour)
    (Decides-and _ _ (Decides-eqb m.minute n.minute) (Decides-eqb m.second n.second))))))
