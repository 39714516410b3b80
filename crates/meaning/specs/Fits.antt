-- What fitting means, apart from how it is found: 01 'Rewriting', "One fits if the text is its pattern with bytes for
-- s-variables and parts, perhaps empty, for e-variables, and all conditions hold". That `match` finds what fits, and
-- finds nothing only where nothing fits, is proved in proofs/laws/Fits.
use Rattle.std.specs.Prelude.{ℕ, ◌≡◌, true, List, [], ◌∷◌, ◌++◌}
use Rattle.std.proofs.Math.Option.{Option, none, some}
use Rattle.meaning.specs.Choice.{Bytes, lookup}
use Rattle.meaning.specs.Tree.{character, symbol, Element, letter, part, Condition}
use Rattle.meaning.specs.Rewriting.{Bindings, hold}

abbrev pub one_byte : Option ℕ → Option Bytes
one_byte none = none
one_byte (some b) = some (b ∷ [])

-- what an element stands for; none where its variable is not bound. "Equal s-variables take equal bytes", since a name
-- is bound once
abbrev pub stands_for : Bindings → Element → Option Bytes
stands_for bound (letter (character c)) = some (c ∷ [])
stands_for bound (letter (symbol x)) = one_byte (lookup x bound.symbols)
stands_for bound (part x) = lookup x bound.parts

abbrev pub joined : Option Bytes → Option Bytes → Option Bytes
joined none later = none
joined (some text) none = none
joined (some text) (some rest) = some (text ++ rest)

-- the pattern with what its variables take put in
unfoldable pub filled : Bindings → List Element → Option Bytes
filled bound [] = some []
filled bound (e ∷ es) = joined (stands_for bound e) (filled bound es)

pub record Fits (pattern : List Element) (conditions : List Condition) (text : Bytes) (bound : Bindings) : Type 0 where
  pub fills : filled bound pattern ≡ some text
  pub holds : hold conditions bound ≡ true
