-- How many bytes of a part pass a test, from its beginning on and up to its end.
use Rattle.std.specs.Prelude.{ℕ, ◌≤◌, ◌≡◌, Bool, leb, length, take, drop}
use Rattle.meaning.specs.Choice.{Bytes, every}

-- what a call of a test may hand back is what the test says
abbrev pub IsTest : (ℕ → Bool → Type 0) → (ℕ → Bool) → Type 0
IsTest answers test = (b : ℕ) (answer : Bool) → answers b answer → answer ≡ test b

-- the first so many bytes pass, and the next one doesn't
pub record Leads (f : ℕ → Bool) (part : Bytes) (n : ℕ) : Type 0 where
  pub each : (k : ℕ) → k ≤ length part → every f (take k part) ≡ leb k n
  pub inside : n ≤ length part

-- the bytes after so many pass, and the one before them doesn't
pub record Trails (f : ℕ → Bool) (part : Bytes) (n : ℕ) : Type 0 where
  pub each : (k : ℕ) → k ≤ length part → every f (drop k part) ≡ leb n k
