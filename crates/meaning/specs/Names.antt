-- What a name means: 01 'Table text', "Names that begin with Emit are emission. Neither kind may be declared"; 02,
-- T-08, "DmAdd and DmSub become reserved names for calls"; the number of a declared function, counted from 1 in the
-- order of the table; and which function recovers another.
use Rattle.std.specs.Prelude.{ℕ, suc, Bool, true, false, List, [], ◌∷◌, ◌++◌, ltb}
use Rattle.std.proofs.Math.Option.{Option, none, some}
use Rattle.meaning.specs.Choice.{Name, pick, either, is_some, same_bytes, starts_with}
use Rattle.meaning.specs.Angles.{Operation, plus, minus}
use Rattle.meaning.specs.Classes.{Class, class_name, classes}
use Rattle.meaning.specs.Tree.{Table}

-- Emit
abbrev pub emit_prefix : Name
emit_prefix = 69 ∷ 109 ∷ 105 ∷ 116 ∷ []

abbrev pub is_emission : Name → Bool
is_emission n = starts_with emit_prefix n

-- DmAdd, DmSub
abbrev pub operation_name : Operation → Name
operation_name plus = 68 ∷ 109 ∷ 65 ∷ 100 ∷ 100 ∷ []
operation_name minus = 68 ∷ 109 ∷ 83 ∷ 117 ∷ 98 ∷ []

-- How a call of a name is done: as an emission, as an angle call, or by applying the function declared under it.
-- Whatever asks about a called name asks this.
pub data Calling : Type 0 where
  as_emission : Calling
  as_angles : Operation → Calling
  as_function : Calling

abbrev pub calling_of : Name → Calling
calling_of n =
    pick (is_emission n) as_emission
    (pick (same_bytes n (operation_name plus)) (as_angles plus)
    (pick (same_bytes n (operation_name minus)) (as_angles minus) as_function))

-- a call that needs no declaration
abbrev pub built_in : Calling → Bool
built_in as_emission = true
built_in (as_angles op) = true
built_in as_function = false

abbrev pub is_built_in : Name → Bool
is_built_in n = built_in (calling_of n)

-- the class that a predicate's name means
unfoldable pub class_named : List Class → Name → Option Class
class_named [] n = none
class_named (c ∷ cs) n = let later = class_named cs n in pick (same_bytes n (class_name c)) (some c) later

abbrev pub predicate_of : Name → Option Class
predicate_of n = class_named classes n

abbrev pub is_predicate : Name → Bool
is_predicate n = is_some (predicate_of n)

-- no declaration may use it
abbrev pub is_reserved : Name → Bool
is_reserved n = either (is_predicate n) (is_built_in n)

-- the number of the first function declared under a name, counted on from `count`; 0 where there is none
unfoldable pub number_from : ℕ → Table → Name → ℕ
number_from count [] n = 0
number_from count (f ∷ fs) n = let later = number_from (suc count) fs n in pick (same_bytes n f.name) (suc count) later

abbrev pub number_of : Table → Name → ℕ
number_of t n = number_from 0 t n

-- a call of the name can be done
abbrev pub is_known : Table → Name → Bool
is_known t n = either (is_built_in n) (ltb 0 (number_of t n))

-- Recover
abbrev pub recover_prefix : Name
recover_prefix = 82 ∷ 101 ∷ 99 ∷ 111 ∷ 118 ∷ 101 ∷ 114 ∷ []

abbrev pub is_recovering : Name → Bool
is_recovering n = starts_with recover_prefix n

-- the number of the function that recovers the one of a name, or 0: 02, T-04, "If X fits nothing and RecoverX is
-- declared, RecoverX is applied"; "A function whose own name begins with Recover has none"
abbrev pub recoverer_of : Table → Name → ℕ
recoverer_of t n = let r = number_of t (recover_prefix ++ n) in pick (is_recovering n) 0 r
