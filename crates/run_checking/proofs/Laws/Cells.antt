-- The tests on cells, as matching asks for them.
use Prim.Native.Nat.{ℕ, ◌+◌, ◌*◌, ◌%◌}
use native.Mathlib.Omega.{arith}
use mathlib.Core.Path.{◌≡◌, refl}
use mathlib.Core.Bool.{Bool}
use mathlib.Core.Option.{Option, none, some}
use lib.Arith.{mod-mul}
use lib.Dec.{eqb}
use borrow.Author.Tests.{ne_eqb}
use Rattle.meaning.specs.Choice.{Bytes, pick}
use Rattle.meaning.specs.Classes.{Class, in_class, same_truth}
use Rattle.meaning.specs.Instructions.{Site}
use Rattle.meaning.specs.Matching.{checked, asked, wrong, check}
use Rattle.meaning.specs.Packing.{number_in, first_in, second_in, third_in, site_of, look_of, compare_of, predicate_for, test_of}
use Rattle.run_sites.specs.Sites.{site_cell}
use Rattle.run_checking.specs.Checks.{last_test}

-- a test asks for the cell at its site
pub look-asks : (o : Option Site) (c : ℕ) (field : Bytes) (place : ℕ) (a : Option ℕ) → a ≡ site_cell o field place →
    check (look_of o c) field place ≡ asked (λ b. checked (eqb c b)) a
look-asks none c field place a e = rw e
look-asks (some s) c field place a e = rw e

pub compare-asks : (o o' : Option Site) (field : Bytes) (place : ℕ) (a : Option ℕ) → a ≡ site_cell o field place →
    check (compare_of o o') field place ≡ asked (λ b. asked (λ b'. checked (eqb b b')) (site_cell o' field place)) a
compare-asks none o' field place a e = rw e
compare-asks (some s) none field place a e = no a
  where
    no : (a : Option ℕ) → wrong ≡ asked (λ b. wrong) a
    no none = refl
    no (some b) = refl
compare-asks (some s) (some s') field place a e = rw e

pub predicate-asks : (o : Option Site) (class : Class) (expected : Bool) (field : Bytes) (place : ℕ) (a : Option ℕ) → a ≡ site_cell o field place →
    check (predicate_for o (some class) expected) field place ≡ asked (λ b. checked (same_truth expected (in_class class b))) a
predicate-asks none class expected field place a e = rw e
predicate-asks (some s) class expected field place a e = rw e

-- a number that is none of three
pub none_of : {A : Type 0} (n a b c : ℕ) (x y z other : A) → (n ≡ a → ⊥) → (n ≡ b → ⊥) → (n ≡ c → ⊥) →
    pick (eqb n a) x (pick (eqb n b) y (pick (eqb n c) z other)) ≡ other
none_of n a b c x y z other h h' h'' = simp (ne_eqb n a h, ne_eqb n b h', ne_eqb n c h'')

-- a test's word that has none of the first three numbers
pub test-last : (w : ℕ) → (number_in w ≡ 1 → ⊥) → (number_in w ≡ 2 → ⊥) → (number_in w ≡ 3 → ⊥) → test_of w ≡ last_test w
test-last w = none_of (number_in w) 1 2 3 _ _ _ (last_test w)

-- a word whose number is 1, by its register
pub look-from : (w register : ℕ) → w % 65536 ≡ register * 256 + 1 → test_of w ≡ look_of (site_of register (second_in w)) (third_in w)
look-from w register h =
    let halves : w % 65536 ≡ first_in w * 256 + number_in w = mod-mul w {m = 256} {c = 256} (omega arith) (omega arith) in
    let number : number_in w ≡ 1 = omega arith in
    let same : first_in w ≡ register = omega arith in
    rw (number, same)
