-- The laws of words stored one after another, of a writer.
use Prim.Native.Nat.{ℕ}
use mathlib.Core.Path.{◌≡◌, refl, ◌∙◌}
use mathlib.Core.List.{List, [], ◌++◌}
use Rattle.code_words.specs.declared.CodeWriter.{CodeWriter}
use Rattle.code_words.specs.Writer.{Written, StillToWrite}
use Rattle.code_words.proofs.Laws.Stores.{same_refl, same-trans, same-wrote, same_end, wrote-more}

pub still_refl : (w : CodeWriter) (words : List ℕ) → StillToWrite w words w words
still_refl w words = record { same = refl; put = same_refl w.code.now w.at words }

pub still-trans : {a b c : CodeWriter} {x y z : List ℕ} → StillToWrite a x b y → StillToWrite b y c z → StillToWrite a x c z
still-trans s t = record { same = t.same ∙ s.same; put = same-trans s.put t.put }

-- the same words by another name
pub still-words : {a b : CodeWriter} {x y z : List ℕ} → StillToWrite a x b y → y ≡ z → StillToWrite a x b z
still-words s e = rw e at s

-- what was written need not be written any more
pub still-wrote : {a b c : CodeWriter} {x words : List ℕ} (rest : List ℕ)
    → StillToWrite a x b (words ++ rest) → Written b words c → StillToWrite a x c rest
still-wrote rest s w = record { same = w.same ∙ s.same; put = same-wrote rest s.put w.put }

pub still_end : {a b : CodeWriter} {x : List ℕ} → StillToWrite a x b [] → Written a x b
still_end s = record { same = s.same; put = same_end s.put }

-- one run of words and then another
pub written-more : {a b c : CodeWriter} {x y : List ℕ} → Written a x b → Written b y c → Written a (x ++ y) c
written-more v w = record { same = w.same ∙ v.same; put = wrote-more v.put w.put }

-- both of them, found among what is known
pub written-both : {a b c : CodeWriter} {x y z : List ℕ} → Written a x b → Written b y c → z ≡ x ++ y → Written a z c
written-both v w e = rw e (written-more v w)
