-- The count of seconds since 2000: what each carry adds to it, and that it tells times apart.
use Rattle.std.proofs.Common.{◌≡◌, ℕ, zero, suc, ◌+◌, ◌-◌, ◌%◌, ◌<◌, ◌≤◌, true, false, cond, ltb, refl, ap, ◌∙◌, ⊎_elim, add-one, arith}
use Rattle.std.proofs.lemmas.Bool.{cond_both, cases_order, cases_lt, ltb-true, ltb-false}
use Rattle.std.proofs.lemmas.Bool.Decides.{nat_tests}
use Rattle.calendar.specs.Calendar.{leap, days_of_month}
use Rattle.calendar.specs.Moment.{Moment, moment}
use Rattle.calendar.specs.Running.{seconds_on}
use Rattle.calendar.proofs.Moments.{Exists, on_date, at_time}
use Rattle.calendar.specs.Carry.{year_on, month_on, day_on, hour_on, minute_on, second_on}
use Rattle.calendar.specs.Elapsed.{total, days_of_year, days_before_year, days_before_month, days_since_2000, seconds_since_2000, century}

total_up : (f : ℕ → ℕ) (a b : ℕ) → a ≤ b → total f a ≤ total f b
total_up f a zero h = let e : a ≡ 0 = omega arith in rw e (omega arith)
total_up f a (suc b) h =
    ⊎_elim (λ (l : a < suc b). let up : total f a ≤ total f b = total_up f a b (omega arith) in omega arith)
    (λ (l : suc b ≤ a). let e : a ≡ suc b = omega arith in rw e (omega arith))
    (cases_lt a (suc b))

-- the months of a year make the year
year_by_months : (year : ℕ) → total (λ k. days_of_month year (k + 1)) 12 ≡ days_of_year year
year_by_months year =
    elim (leap year) as (λ b. 31 + cond b 29 28 + 31 + 30 + 31 + 30 + 31 + 31 + 30 + 31 + 30 + 31 ≡ cond b 366 365)
    [ true ↦ refl | false ↦ refl ]

next_month : (year month : ℕ) → 1 ≤ month → days_before_month year (month + 1) ≡ days_before_month year month + days_of_month year month
next_month year month h =
    let up : month + 1 - 1 ≡ suc (month - 1) = omega arith in
    let back : month - 1 + 1 ≡ month = omega arith in
    ap (total (λ k. days_of_month year (k + 1))) up
    ∙ ap (λ (n : ℕ). days_before_month year month + days_of_month year n) back

month_within : (year month : ℕ) → 1 ≤ month → month ≤ 12 → days_before_month year month + days_of_month year month ≤ days_of_year year
month_within year month h k =
    let up : days_before_month year (month + 1) ≤ total (λ k. days_of_month year (k + 1)) 12 =
    total_up (λ k. days_of_month year (k + 1)) (month + 1 - 1) 12 (omega arith) in
    omega (arith, year_by_months year, next_month year month h)

year_within : (year : ℕ) → year < 100 → days_before_year year + days_of_year year ≤ 36525
year_within year h = total_up days_of_year (suc year) 100 (omega arith)

-- the days since 2000 of a moment, and that they are within the century
abbrev days : Moment → ℕ
days m = days_since_2000 m.year m.month m.day

days_below : (m : Moment) → Exists m → days m < 36525
unfolding days_since_2000
days_below m x =
    omega (arith, month_within m.year m.month x.from_january x.to_december, year_within m.year x.within_century)

day_more : (year month day : ℕ) → 1 ≤ day → days_since_2000 year month (day + 1) ≡ days_since_2000 year month day + 1
unfolding days_since_2000
day_more year month day h = omega arith

month_more : (year month day : ℕ) → 1 ≤ month → 1 ≤ day → day ≡ days_of_month year month → days_since_2000 year (month + 1) 1 ≡ days_since_2000 year month day + 1
unfolding days_since_2000
month_more year month day h k e = omega (arith, next_month year month h)

year_more : (year : ℕ) → days_since_2000 (year + 1) 1 1 ≡ days_since_2000 year 12 31 + 1
unfolding days_since_2000
year_more year =
    let e : total days_of_year (year + 1) ≡ total days_of_year year + days_of_year year = ap (total days_of_year) (add-one year) in
    omega (arith, year_by_months year)

last_day : days_since_2000 99 12 31 + 1 ≡ 36525
unfolding days_since_2000
last_day = refl

first_day : days_since_2000 0 1 1 ≡ 0
unfolding days_since_2000
first_day = refl

days_some : (year month : ℕ) → 1 ≤ days_of_month year month
days_some year month = grind (arith, nat_tests)

december : (year month : ℕ) → month ≡ 12 → days_of_month year month ≡ 31
december year month e = rw e

-- r exists, and is n seconds after m on a clock that begins the century anew
pub record On (n : ℕ) (m r : Moment) : Type 0 where
  pub there : Exists r
  pub later : seconds_since_2000 r ≡ (seconds_since_2000 m + n) % century

module _ (m : Moment) (x : Exists m) where
  year_later : m.month ≡ 12 → m.day ≡ 31 → On 86400 m (year_on m)
  unfolding seconds_since_2000
  year_later dec d31 =
      let end : days m ≡ days_since_2000 m.year 12 31 = rw (dec, d31) in
      cond_both (ltb m.year 99) (m.year + 1) 0 (λ year. On 86400 m (moment year 1 1 m.hour m.minute m.second))
      (λ e.
      let l : m.year < 99 = ltb-true m.year 99 e in
      let there = on_date m (m.year + 1) 1 1 x (omega arith) (omega arith) (omega arith) (omega arith) (omega arith) in
      record { there = there; later = omega (arith, year_more m.year, days_below _ there) })
      (λ e.
      let y99 : m.year ≡ 99 = omega (arith, ltb-false m.year 99 e) in
      let last : days_since_2000 m.year 12 31 ≡ days_since_2000 99 12 31 = rw y99 in
      record {
        there = on_date m 0 1 1 x (omega arith) (omega arith) (omega arith) (omega arith) (omega arith);
        later = omega (arith, last_day, first_day);
      })

  month_later : m.day ≡ days_of_month m.year m.month → On 86400 m (month_on m)
  unfolding seconds_since_2000
  month_later last =
      cond_both (ltb m.month 12) _ _ (On 86400 m)
      (λ e.
      let l : m.month < 12 = ltb-true m.month 12 e in
      let there = on_date m m.year (m.month + 1) 1 x x.within_century (omega arith) (omega arith) (omega arith) (days_some m.year (m.month + 1)) in
      record { there = there; later = omega (arith, month_more m.year m.month m.day x.from_january x.from_first last, days_below _ there) })
      (λ e.
      let dec : m.month ≡ 12 = omega (arith, ltb-false m.month 12 e) in
      year_later dec (last ∙ december m.year m.month dec))

  pub day_later : On 86400 m (day_on m)
  unfolding seconds_since_2000
  day_later =
      cond_both (ltb m.day (days_of_month m.year m.month)) _ _ (On 86400 m)
      (λ e.
      let l : m.day < days_of_month m.year m.month = ltb-true m.day (days_of_month m.year m.month) e in
      let there = on_date m m.year m.month (m.day + 1) x x.within_century x.from_january x.to_december (omega arith) (omega arith) in
      record { there = there; later = omega (arith, day_more m.year m.month m.day x.from_first, days_below _ there) })
      (λ e. month_later (omega (arith, ltb-false m.day (days_of_month m.year m.month) e)))

pub hour_later : (m : Moment) → Exists m → On 3600 m (hour_on m)
unfolding seconds_since_2000
hour_later m x =
    cond_both (ltb m.hour 23) _ _ (On 3600 m)
    (λ e.
    let l : m.hour < 23 = ltb-true m.hour 23 e in
    record { there = at_time m (m.hour + 1) m.minute m.second x (omega arith) (omega arith) (omega arith); later = omega (arith, days_below m x) })
    (λ e.
    let l : 23 ≤ m.hour = ltb-false m.hour 23 e in
    let o = day_later _ (at_time m 0 m.minute m.second x (omega arith) (omega arith) (omega arith)) in
    record { there = o.there; later = omega (arith, o.later) })

pub minute_later : (m : Moment) → Exists m → On 60 m (minute_on m)
unfolding seconds_since_2000
minute_later m x =
    cond_both (ltb m.minute 59) _ _ (On 60 m)
    (λ e.
    let l : m.minute < 59 = ltb-true m.minute 59 e in
    record { there = at_time m m.hour (m.minute + 1) m.second x (omega arith) (omega arith) (omega arith); later = omega (arith, days_below m x) })
    (λ e.
    let l : 59 ≤ m.minute = ltb-false m.minute 59 e in
    let o = hour_later _ (at_time m m.hour 0 m.second x (omega arith) (omega arith) (omega arith)) in
    record { there = o.there; later = omega (arith, o.later) })

pub second_later : (m : Moment) → Exists m → On 1 m (second_on m)
unfolding seconds_since_2000 second_on
second_later m x =
    cond_both (ltb m.second 59) _ _ (On 1 m)
    (λ e.
    let l : m.second < 59 = ltb-true m.second 59 e in
    record { there = at_time m m.hour m.minute (m.second + 1) x (omega arith) (omega arith) (omega arith); later = omega (arith, days_below m x) })
    (λ e.
    let l : 59 ≤ m.second = ltb-false m.second 59 e in
    let o = minute_later _ (at_time m m.hour m.minute 0 x (omega arith) (omega arith) (omega arith)) in
    record { there = o.there; later = omega (arith, o.later) })

pub seconds_below : (m : Moment) → Exists m → seconds_since_2000 m < century
unfolding seconds_since_2000
seconds_below m x = omega (arith, days_below m x)

pub seconds_later : (n : ℕ) (m : Moment) → Exists m → On n m (seconds_on n m)
seconds_later zero m x = record { there = x; later = omega (arith, seconds_below m x) }
seconds_later (suc n) m x =
    let o = seconds_later n m x in
    let p = second_later (seconds_on n m) o.there in
    record { there = p.there; later = omega (arith, o.later, p.later) }

-- the count of seconds tells times apart
years_apart : (year later : ℕ) → year < later → days_before_year year + days_of_year year ≤ days_before_year later
years_apart year later h = total_up days_of_year (suc year) later (omega arith)

months_apart : (year month later : ℕ) → 1 ≤ month → month < later → days_before_month year month + days_of_month year month ≤ days_before_month year later
months_apart year month later h k =
    let up : days_before_month year (month + 1) ≤ days_before_month year later =
    total_up (λ k. days_of_month year (k + 1)) (month + 1 - 1) (later - 1) (omega arith) in
    omega (arith, next_month year month h)

module _ (m n : Moment) (x : Exists m) (y : Exists n) (e : days m ≡ days n) where
  same_year : m.year ≡ n.year
  unfolding days_since_2000
  same_year =
      let a = month_within m.year m.month x.from_january x.to_december in
      let b = month_within n.year n.month y.from_january y.to_december in
      ⊎_elim (λ same. same)
      (⊎_elim (λ l. absurd (omega (arith, years_apart m.year n.year l)))
      (λ l. absurd (omega (arith, years_apart n.year m.year l))))
      (cases_order m.year n.year)

  same_month : m.month ≡ n.month
  unfolding days_since_2000
  same_month =
      let a : days_before_year m.year ≡ days_before_year n.year = ap days_before_year same_year in
      let b : days_before_month m.year n.month ≡ days_before_month n.year n.month = ap (λ (k : ℕ). days_before_month k n.month) same_year in
      let c : days_of_month m.year n.month ≡ days_of_month n.year n.month = ap (λ (k : ℕ). days_of_month k n.month) same_year in
      ⊎_elim (λ same. same)
      (⊎_elim (λ l. absurd (omega (arith, months_apart m.year m.month n.month x.from_january l)))
      (λ l. absurd (omega (arith, months_apart m.year n.month m.month y.from_january l))))
      (cases_order m.month n.month)

  same_day : m.day ≡ n.day
  unfolding days_since_2000
  same_day =
      let a : days_before_year m.year ≡ days_before_year n.year = ap days_before_year same_year in
      let b : days_before_month m.year m.month ≡ days_before_month n.year n.month =
      ap (λ (k : ℕ). days_before_month k m.month) same_year ∙ ap (days_before_month n.year) same_month in
      omega arith

pub seconds_tell : (m n : Moment) → Exists m → Exists n → seconds_since_2000 m ≡ seconds_since_2000 n → m ≡ n
unfolding seconds_since_2000
seconds_tell m n x y e =
    let d : days m ≡ days n = omega arith in
    let h : m.hour ≡ n.hour = omega arith in
    let mi : m.minute ≡ n.minute = omega arith in
    let s : m.second ≡ n.second = omega arith in
    let ye = same_year m n x y d in
    let mo = same_month m n x y d in
    let da = same_day m n x y d in
    let plain : Moment → Moment = λ o. moment o.year o.month o.day o.hour o.minute o.second in
    let same : plain m ≡ plain n = cc in
    same
