-- The bytes of a text from a place on, and those between two places.
use Prim.Native.Nat.{ℕ, suc, ◌≤◌, ◌<◌}
use mathlib.Core.Path.{◌≡◌, ◌∙◌, ap}
use mathlib.Core.Bool.{Bool, false}
use mathlib.Core.List.{[], ◌∷◌, ◌++◌}
use native.Mathlib.Omega.{arith}
use lib.ListN.{length, get_or, take, drop, drop_of_length-le}
use lib.Seq.{drop-cons, take-suc, slice, drop-append-le, length-take-le}
use Rattle.meaning.specs.Choice.{Bytes}
use Rattle.meaning.specs.Tokens.{ahead}

module _ (text : Bytes) (at : ℕ) where
  pub here : at < length text → drop at text ≡ get_or text at 0 ∷ drop (suc at) text
  here h = drop-cons text at 0 h

  pub nothing : length text ≤ at → drop at text ≡ []
  nothing h = drop_of_length-le text h

  pub ahead-here : (test : ℕ → Bool) → at < length text → test (get_or text at 0) ≡ ahead test (drop at text)
  ahead-here test h = rw (here h)

  pub ahead-nothing : (test : ℕ → Bool) → length text ≤ at → false ≡ ahead test (drop at text)
  ahead-nothing test h = rw (nothing h)

-- one byte more
pub slice-suc : (text : Bytes) (from at : ℕ) → from ≤ at → at < length text
    → slice from (suc at) text ≡ slice from at text ++ get_or text at 0 ∷ []
slice-suc text from at h k =
    ap (drop from) (take-suc text at 0 k)
    ∙ drop-append-le from (take at text) (get_or text at 0 ∷ []) (rw (length-take-le at text (omega arith)) h)
