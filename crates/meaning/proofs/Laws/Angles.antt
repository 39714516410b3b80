-- Angle calls, against 02's own words for an angle and an argument (T-08): which arguments are read, which results are
-- given, and that a result is an angle again.
use Prim.Native.Nat.{ℕ, zero, suc, ◌+◌, ◌*◌, ◌/◌, ◌%◌, ◌≤◌, ◌<◌}
use native.Mathlib.Omega.{arith}
use mathlib.Core.Path.{◌≡◌, refl, sym, ap, subst, ◌∙◌}
use mathlib.Core.Logic.{◌↔◌}
use mathlib.Core.Bool.{Bool, true, false, not}
use mathlib.Core.List.{List, [], ◌∷◌, ◌++◌}
use mathlib.Core.Option.{Option, none, some, some-injective}
use lib.Dec.{leb, eqb}
use lib.IntN.{ℤ, pos, negsuc, neg_ℤ, nat_abs}
use lib.ListN.{length, length-append}
use borrow.Author.Tests.{leb-true, le-leb, lt-leb, leb-false, eqb-true, eqb-false, eq-eqb, ne_eqb, not-true}
use Rattle.meaning.specs.Choice.{Bytes, pick, both, either, every, starts_with}
use Rattle.meaning.specs.Classes.{in_class, digit, within}
use Rattle.meaning.specs.Numerals.{decimal, two_digits, numeral_from}
use Rattle.meaning.specs.Angles.{Operation, cut_before, cut_after, numeral_in, minutes_of, size_in, signed, with_sign, angle_in, size_text}
use Rattle.meaning.specs.Angles.{angle_text}
use Rattle.meaning.specs.Angles.{Angled, sum, not_angles, out_of_range, worked, max_minutes, in_range, angled_of, angled}
use Rattle.meaning.proofs.Laws.Choosing.{not-both, some-none, both-parts, guard-some}

-- WHAT AN ANGLE IS

-- "one to three degree digits up to 359", "two minute digits 00 to 59"
pub record IsNumber (least most greatest : ℕ) (ds : Bytes) (n : ℕ) : Type 0 where
  pub long : least ≤ length ds
  pub short : length ds ≤ most
  pub digits : every (in_class digit) ds ≡ true
  pub value : numeral_from 0 ds ≡ n
  pub low : n ≤ greatest

-- "an optional `-`, one to three degree digits up to 359, `:`, two minute digits 00 to 59"
pub data IsAngle : Bytes → ℤ → Type 0 where
  plain : {ds ms : Bytes} {d m : ℕ} → IsNumber 1 3 359 ds d → IsNumber 2 2 59 ms m →
      IsAngle (ds ++ 58 ∷ ms) (pos (60 * d + m))
  dashed : {ds ms : Bytes} {d m : ℕ} → IsNumber 1 3 359 ds d → IsNumber 2 2 59 ms m →
      IsAngle (45 ∷ ds ++ 58 ∷ ms) (neg_ℤ (pos (60 * d + m)))

-- "two angles with one byte 32 between"
pub data AreAngles : Bytes → ℤ → ℤ → Type 0 where
  two : {a b : Bytes} {x y : ℤ} → IsAngle a x → IsAngle b y → AreAngles (a ++ 32 ∷ b) x y

pub record SomeAngles (text : Bytes) : Type 0 where
  pub first : ℤ
  pub second : ℤ
  pub angles : AreAngles text first second

-- two angles whose result is too great
pub record Exceeds (op : Operation) (text : Bytes) : Type 0 where
  pub first : ℤ
  pub second : ℤ
  pub angles : AreAngles text first second
  pub beyond : max_minutes < nat_abs (worked op first second)

-- CUTTING

-- a byte doesn't stand among others
abbrev Without : ℕ → Bytes → Type 0
Without b cs = every (λ c. not (eqb c b)) cs ≡ true

module _ (b : ℕ) (later : Bytes) where
  cut-before : (cs : Bytes) → Without b cs → cut_before b (cs ++ b ∷ later) ≡ cs
  unfolding cut_before every
  cut-before [] w = rw (eq-eqb b b refl)
  cut-before (c ∷ cs) w =
      let p = both-parts (not (eqb c b)) _ w in
      rw (not-true (eqb c b) p.0, cut-before cs p.1)

  cut-after : (cs : Bytes) → Without b cs → cut_after b (cs ++ b ∷ later) ≡ later
  unfolding cut_after every
  cut-after [] w = rw (eq-eqb b b refl)
  cut-after (c ∷ cs) w =
      let p = both-parts (not (eqb c b)) _ w in
      rw (not-true (eqb c b) p.0) (cut-after cs p.1)

cut_step : (b c : ℕ) (cs first second : Bytes) (t : Bool) → eqb c b ≡ t → (0 < length second → cs ≡ first ++ b ∷ second) →
    0 < length (pick t cs second) → c ∷ cs ≡ pick t [] (c ∷ first) ++ b ∷ pick t cs second
cut_step b c cs first second true e whole h = ap (λ z. z ∷ cs) (eqb-true c b e)
cut_step b c cs first second false e whole h = ap (λ z. c ∷ z) (whole h)

-- where something comes after the byte, the text is put together again
cut-whole : (b : ℕ) (cs : Bytes) → 0 < length (cut_after b cs) → cs ≡ cut_before b cs ++ b ∷ cut_after b cs
unfolding cut_before cut_after
cut-whole b [] h = absurd (omega arith)
cut-whole b (c ∷ cs) h = cut_step b c cs (cut_before b cs) (cut_after b cs) (eqb c b) refl (cut-whole b cs) h

-- NUMBERS

pub number_is : (least most greatest : ℕ) (ds : Bytes) {n : ℕ} → numeral_in least most greatest ds ≡ some n → IsNumber least most greatest ds n
number_is least most greatest ds e =
    let g = guard-some _ (some (numeral_from 0 ds)) e in
    let p = both-parts (within least most (length ds)) _ g.0 in
    let q = both-parts (leb least (length ds)) _ p.0 in
    let r = both-parts (every (in_class digit) ds) _ p.1 in
    let v = some-injective _ _ g.1 in
    let top = leb-true (numeral_from 0 ds) greatest r.1 in
    record {
      long = leb-true _ _ q.0;
      short = leb-true _ _ q.1;
      digits = r.0;
      value = v;
      low = omega arith;
    }

number_read : {least most greatest : ℕ} {ds : Bytes} {n : ℕ} → IsNumber least most greatest ds n → numeral_in least most greatest ds ≡ some n
number_read {least} {most} {greatest} {ds} {n} i =
    rw (le-leb least (length ds) i.long, le-leb (length ds) most i.short, i.digits, i.value, le-leb n greatest i.low)

-- a byte that is no digit doesn't stand among digits
digits-without : (b : ℕ) → in_class digit b ≡ false → (ds : Bytes) → every (in_class digit) ds ≡ true → Without b ds
unfolding every
digits-without b other [] e = refl
digits-without b other (d ∷ ds) e =
    let p = both-parts (in_class digit d) _ e in
    rw (ne_eqb d b (λ q. not-both p.0 (ap (in_class digit) q ∙ other))) (digits-without b other ds p.1)

without-append : (b : ℕ) (cs ds : Bytes) → Without b cs → Without b ds → Without b (cs ++ ds)
unfolding every
without-append b [] ds v w = w
without-append b (c ∷ cs) ds v w =
    let p = both-parts (not (eqb c b)) _ v in
    rw p.0 (without-append b cs ds p.1 w)

-- ANGLES READ

record Signed (below : Bool) (o : Option ℕ) (x : ℤ) : Type 0 where
  size : ℕ
  is : o ≡ some size
  value : signed below size ≡ x

module _ {ds ms : Bytes} {d m : ℕ} (h : IsNumber 1 3 359 ds d) (l : IsNumber 2 2 59 ms m) where
  size-read : size_in (ds ++ 58 ∷ ms) ≡ some (60 * d + m)
  size-read =
      let w = digits-without 58 refl ds h.digits in
      rw (cut-before 58 ms ds w, cut-after 58 ms ds w, number_read h, number_read l)

  size-without : (b : ℕ) → in_class digit b ≡ false → eqb 58 b ≡ false → Without b (ds ++ 58 ∷ ms)
  unfolding every
  size-without b other e =
      without-append b ds (58 ∷ ms) (digits-without b other ds h.digits) (rw e (digits-without b other ms l.digits))

pub angle-read : {text : Bytes} {x : ℤ} → IsAngle text x → angle_in text ≡ some x
unfolding every
angle-read (plain {ds} {ms} h l) = undashed ds (size-without h l 45 refl refl) (size-read h l)
  where
    undashed : (ds : Bytes) {n : ℕ} → Without 45 (ds ++ 58 ∷ ms) → size_in (ds ++ 58 ∷ ms) ≡ some n → angle_in (ds ++ 58 ∷ ms) ≡ some (pos n)
    undashed [] w e = rw e
    undashed (c ∷ ds) w e = rw (not-true (eqb c 45) (both-parts (not (eqb c 45)) _ w).0, e)
angle-read (dashed h l) = rw (size-read h l)

pub record IsSize (text : Bytes) (n : ℕ) : Type 0 where
  pub degrees : ℕ
  pub minutes : ℕ
  pub first : IsNumber 1 3 359 (cut_before 58 text) degrees
  pub second : IsNumber 2 2 59 (cut_after 58 text) minutes
  pub size : 60 * degrees + minutes ≡ n

pub size_is : (text : Bytes) {n : ℕ} → size_in text ≡ some n → IsSize text n
size_is text {n} e = by_parts (numeral_in 1 3 359 (cut_before 58 text)) (numeral_in 2 2 59 (cut_after 58 text)) refl refl e
  where
    by_parts : (o p : Option ℕ) → numeral_in 1 3 359 (cut_before 58 text) ≡ o → numeral_in 2 2 59 (cut_after 58 text) ≡ p →
        minutes_of o p ≡ some n → IsSize text n
    by_parts none p q r e = absurd (some-none e refl)
    by_parts (some d) none q r e = absurd (some-none e refl)
    by_parts (some d) (some m) q r e =
        record { degrees = d; minutes = m; first = number_is 1 3 359 _ q; second = number_is 2 2 59 _ r; size = some-injective _ _ e }

size-whole : {text : Bytes} {n : ℕ} → IsSize text n → text ≡ cut_before 58 text ++ 58 ∷ cut_after 58 text
size-whole {text} i = cut-whole 58 text (omega (arith, i.second.long))

plain-is : {text : Bytes} {n : ℕ} → IsSize text n → IsAngle text (pos n)
plain-is {text} {n} i =
    subst (λ t. IsAngle t (pos n)) (sym (size-whole i))
    (subst (λ k. IsAngle (cut_before 58 text ++ 58 ∷ cut_after 58 text) (pos k)) i.size (plain i.first i.second))

dashed-is : {text : Bytes} {n : ℕ} → IsSize text n → IsAngle (45 ∷ text) (neg_ℤ (pos n))
dashed-is {text} {n} i =
    subst (λ t. IsAngle (45 ∷ t) (neg_ℤ (pos n))) (sym (size-whole i))
    (subst (λ k. IsAngle (45 ∷ cut_before 58 text ++ 58 ∷ cut_after 58 text) (neg_ℤ (pos k))) i.size (dashed i.first i.second))

pub angle-is : (text : Bytes) {x : ℤ} → angle_in text ≡ some x → IsAngle text x
angle-is [] e = absurd (some-none e refl)
angle-is (b ∷ text) {x} e = by_sign (eqb b 45) refl e
  where
    of_size : (below : Bool) (o : Option ℕ) → with_sign below o ≡ some x → Signed below o x
    of_size below none e = absurd (some-none e refl)
    of_size below (some n) e = record { size = n; is = refl; value = some-injective _ _ e }

    by_sign : (t : Bool) → eqb b 45 ≡ t → pick t (with_sign true (size_in text)) (with_sign false (size_in (b ∷ text))) ≡ some x →
        IsAngle (b ∷ text) x
    by_sign true q e =
        let s = of_size true (size_in text) e in
        subst (λ c. IsAngle (c ∷ text) x) (sym (eqb-true b 45 q))
        (subst (λ y. IsAngle (45 ∷ text) y) s.value (dashed-is (size_is text s.is)))
    by_sign false q e =
        let s = of_size false (size_in (b ∷ text)) e in
        subst (λ y. IsAngle (b ∷ text) y) s.value (plain-is (size_is (b ∷ text) s.is))

-- ARGUMENTS

angle-without : {text : Bytes} {x : ℤ} → IsAngle text x → Without 32 text
unfolding every
angle-without (plain h l) = size-without h l 32 refl refl
angle-without (dashed h l) = size-without h l 32 refl refl

in-range : (x : ℤ) → nat_abs x ≤ max_minutes → in_range x ≡ sum (angle_text x)
in-range x h = rw (le-leb (nat_abs x) max_minutes h)

past-range : (x : ℤ) → max_minutes < nat_abs x → in_range x ≡ out_of_range
past-range x h = rw (lt-leb (nat_abs x) max_minutes h)

range-read : (x : ℤ) → in_range x ≡ not_angles → ⊥
range-read x e = by-test (leb (nat_abs x) max_minutes) e
  where
    by-test : (t : Bool) → pick t (sum (angle_text x)) out_of_range ≡ not_angles → ⊥
    by-test true e = let z : ◌≡◌ {A = ℕ} 0 1 = cc in omega arith
    by-test false e = let z : ◌≡◌ {A = ℕ} 0 1 = cc in omega arith

range-past : (x : ℤ) → in_range x ≡ out_of_range → max_minutes < nat_abs x
range-past x e = by-test (leb (nat_abs x) max_minutes) refl e
  where
    by-test : (t : Bool) → leb (nat_abs x) max_minutes ≡ t → pick t (sum (angle_text x)) out_of_range ≡ out_of_range → max_minutes < nat_abs x
    by-test true q e = let z : ◌≡◌ {A = ℕ} 0 1 = cc in absurd (omega arith)
    by-test false q e = leb-false (nat_abs x) max_minutes q

module _ (op : Operation) where
  -- two angles come to their sum or difference
  pub angled-two : {text : Bytes} {x y : ℤ} → AreAngles text x y → angled op text ≡ in_range (worked op x y)
  angled-two (two {a} {b} p q) =
      rw (cut-before 32 b a (angle-without p), cut-after 32 b a (angle-without p), angle-read p, angle-read q)

  -- and what comes to anything but 20 is two angles
  angled-is : (text : Bytes) → (angled op text ≡ not_angles → ⊥) → SomeAngles text
  angled-is text other = by_parts (angle_in (cut_before 32 text)) (angle_in (cut_after 32 text)) refl refl other
    where
      there : (cs : Bytes) {y : ℤ} → angle_in cs ≡ some y → 0 < length cs
      there [] e = absurd (some-none e refl)
      there (c ∷ cs) e = omega arith

      by_parts : (o p : Option ℤ) → angle_in (cut_before 32 text) ≡ o → angle_in (cut_after 32 text) ≡ p → (angled_of op o p ≡ not_angles → ⊥) →
          SomeAngles text
      by_parts none p q r other = absurd (other refl)
      by_parts (some x) none q r other = absurd (other refl)
      by_parts (some x) (some y) q r other =
          record {
            first = x;
            second = y;
            angles =
                subst (λ t. AreAngles t x y) (sym (cut-whole 32 text (there (cut_after 32 text) r)))
                (two (angle-is (cut_before 32 text) q) (angle-is (cut_after 32 text) r));
          }

  -- ANGLED EXACTLY: 20 exactly where the argument is not two angles, 21 exactly where it is and the result is beyond 359:59
  pub exactly-20 : (text : Bytes) → angled op text ≡ not_angles ↔ (SomeAngles text → ⊥)
  exactly-20 text = (
    λ e r. range-read (worked op r.first r.second) (sym (angled-two r.angles) ∙ e),
    λ none. by_result (angled op text) refl (λ other. none (angled-is text other)),
  )
    where
      by_result : (a : Angled) → angled op text ≡ a → ((angled op text ≡ not_angles → ⊥) → ⊥) → angled op text ≡ not_angles
      by_result (sum given) e h = absurd (h (λ q. let z : ◌≡◌ {A = ℕ} 0 1 = cc in omega arith))
      by_result not_angles e h = e
      by_result out_of_range e h = absurd (h (λ q. let z : ◌≡◌ {A = ℕ} 0 1 = cc in omega arith))

  pub exactly-21 : (text : Bytes) → angled op text ≡ out_of_range ↔ Exceeds op text
  exactly-21 text = (exceeds, λ x. angled-two x.angles ∙ past-range (worked op x.first x.second) x.beyond)
    where
      exceeds : angled op text ≡ out_of_range → Exceeds op text
      exceeds e =
          let r = angled-is text (λ q. let z : ◌≡◌ {A = ℕ} 0 1 = cc in omega arith) in
          record {
            first = r.first;
            second = r.second;
            angles = r.angles;
            beyond = range-past (worked op r.first r.second) (sym (angled-two r.angles) ∙ e);
          }

-- RESULTS

-- every number below one
unfoldable below : ℕ → List ℕ
below zero = []
below (suc n) = n ∷ below n

below_each : (f : ℕ → Bool) (n : ℕ) → every f (below n) ≡ true → (d : ℕ) → d < n → f d ≡ true
unfolding below every
below_each f zero e d h = absurd (omega arith)
below_each f (suc n) e d h =
    let p = both-parts (f n) (every f (below n)) e in
    by_last (eqb d n) refl p.0 (below_each f n p.1)
  where
    by_last : (t : Bool) → eqb d n ≡ t → f n ≡ true → ((d : ℕ) → d < n → f d ≡ true) → f d ≡ true
    by_last true q last others = rw (eqb-true d n q) last
    by_last false q last others = let ne = eqb-false d n q in others d (omega (arith, ne))

-- a number's digits say the number
abbrev says : ℕ → ℕ → Bytes → ℕ → Bool
says least most ds n = both (within least most (length ds)) (both (every (in_class digit) ds) (eqb (numeral_from 0 ds) n))

all-degrees : every (λ d. says 1 3 (decimal d) d) (below 360) ≡ true
unfolding below every numeral_from
all-degrees = refl

all-minutes : every (λ m. says 2 2 (two_digits m) m) (below 60) ≡ true
unfolding below every numeral_from
all-minutes = refl

said : (least most greatest : ℕ) (ds : Bytes) (n : ℕ) → n ≤ greatest → says least most ds n ≡ true → IsNumber least most greatest ds n
said least most greatest ds n low e =
    let p = both-parts (within least most (length ds)) _ e in
    let q = both-parts (leb least (length ds)) _ p.0 in
    let r = both-parts (every (in_class digit) ds) _ p.1 in
    record { long = leb-true _ _ q.0; short = leb-true _ _ q.1; digits = r.0; value = eqb-true _ _ r.1; low = low }

degrees-said : (d : ℕ) → d < 360 → IsNumber 1 3 359 (decimal d) d
degrees-said d h = said 1 3 359 (decimal d) d (omega arith) (below_each (λ d. says 1 3 (decimal d) d) 360 all-degrees d h)

minutes-said : (m : ℕ) → m < 60 → IsNumber 2 2 59 (two_digits m) m
minutes-said m h = said 2 2 59 (two_digits m) m (omega arith) (below_each (λ m. says 2 2 (two_digits m) m) 60 all-minutes m h)

-- "without leading zeros in the degrees": a first digit 0 stands alone
abbrev pub zero_alone : Bytes → Bool
zero_alone [] = true
zero_alone (b ∷ []) = true
zero_alone (b ∷ c ∷ rest) = either (not (eqb b 48)) (eqb c 58)

abbrev pub undashed : Bytes → Bytes
undashed [] = []
undashed (b ∷ text) = pick (eqb b 45) text (b ∷ text)

abbrev pub is_below : ℤ → Bool
is_below (pos n) = false
is_below (negsuc n) = true

-- ANGLE FORM: the text of a value in range is an angle with that value, has a dash exactly below zero, and no leading zeros
pub record Formed (x : ℤ) : Type 0 where
  pub angle : IsAngle (angle_text x) x
  pub dash : starts_with (45 ∷ []) (angle_text x) ≡ is_below x
  pub bare : zero_alone (undashed (angle_text x)) ≡ true
  pub short : length (angle_text x) ≤ 7

no-dash : (text : Bytes) → Without 45 text → starts_with (45 ∷ []) text ≡ false
unfolding starts_with every
no-dash [] w = refl
no-dash (c ∷ text) w =
    let other = not-true (eqb c 45) (both-parts (not (eqb c 45)) _ w).0 in
    rw (ne_eqb 45 c (λ q. eqb-false c 45 other (sym q)))

undashed-same : (text : Bytes) → Without 45 text → undashed text ≡ text
unfolding every
undashed-same [] w = refl
undashed-same (c ∷ text) w = rw (not-true (eqb c 45) (both-parts (not (eqb c 45)) _ w).0)

zero-alone : (ds ms : Bytes) → zero_alone (ds ++ 58 ∷ []) ≡ true → zero_alone (ds ++ 58 ∷ ms) ≡ true
zero-alone [] [] e = refl
zero-alone [] (m ∷ ms) e = refl
zero-alone (d ∷ []) ms e = e
zero-alone (d ∷ c ∷ ds) ms e = e

all-alone : every (λ d. zero_alone (decimal d ++ 58 ∷ [])) (below 360) ≡ true
unfolding below every
all-alone = refl

-- minutes up to 359:59, without a sign
record Sized (n : ℕ) : Type 0 where
  first : IsNumber 1 3 359 (decimal (n / 60)) (n / 60)
  second : IsNumber 2 2 59 (two_digits (n % 60)) (n % 60)
  size : 60 * (n / 60) + n % 60 ≡ n
  plain45 : Without 45 (size_text n)
  alone : zero_alone (size_text n) ≡ true
  short : length (size_text n) ≤ 6

sized : (n : ℕ) → n ≤ max_minutes → Sized n
sized n h =
    let d : n / 60 < 360 = omega arith in
    let first = degrees-said (n / 60) d in
    let second = minutes-said (n % 60) (omega arith) in
    record {
      first = first;
      second = second;
      size = omega arith;
      plain45 = size-without first second 45 refl refl;
      alone = zero-alone (decimal (n / 60)) _ (below_each (λ d. zero_alone (decimal d ++ 58 ∷ [])) 360 all-alone (n / 60) d);
      short = omega (arith, length-append (decimal (n / 60)) (58 ∷ two_digits (n % 60)), first.short);
    }

pub angle-form : (x : ℤ) → nat_abs x ≤ max_minutes → Formed x
unfolding starts_with
angle-form (pos n) h =
    let s = sized n h in
    record {
      angle = subst (λ k. IsAngle (size_text n) (pos k)) s.size (plain s.first s.second);
      dash = no-dash (size_text n) s.plain45;
      bare = rw (undashed-same (size_text n) s.plain45) s.alone;
      short = omega (arith, s.short);
    }
angle-form (negsuc n) h =
    let s = sized (suc n) h in
    record {
      angle = subst (λ k. IsAngle (45 ∷ size_text (suc n)) (neg_ℤ (pos k))) s.size (dashed s.first s.second);
      dash = refl;
      bare = s.alone;
      short = omega (arith, s.short);
    }

-- SUMS: a sum or difference in range is given exactly, as an angle, so that it can be an argument again
pub record Sums (op : Operation) (text : Bytes) (x : ℤ) : Type 0 where
  pub given : Bytes
  pub same : angled op text ≡ sum given
  pub angle : IsAngle given x

pub sums : (op : Operation) {text : Bytes} {x y : ℤ} → AreAngles text x y → nat_abs (worked op x y) ≤ max_minutes → Sums op text (worked op x y)
sums op {x} {y} angles h =
    record {
      given = angle_text (worked op x y);
      same = angled-two op angles ∙ in-range (worked op x y) h;
      angle = (angle-form (worked op x y) h).angle;
    }
