-- The tokens of a listing derive the listed table again, but for the places of called names.
use Prim.Native.Nat.{ℕ, suc}
use mathlib.Core.Path.{◌≡◌, refl, ap, ap₂, ◌∙◌}
use mathlib.Core.Bool.{true, not}
use mathlib.Core.List.{List, [], ◌∷◌, ◌++◌, append_assoc, append-nil, map}
use Rattle.meaning.specs.Choice.{Bytes, Name, both, every}
use Rattle.meaning.specs.Tree.{Sentence, Function, Table, unplaced_sentence, unplaced_function, unplaced_table}
use Rattle.meaning.specs.Names.{is_reserved}
use Rattle.meaning.specs.Allowed.{spelled_name, some_sentence, allowed_sentence, allowed_function, allowed}
use Rattle.meaning.specs.Tokens.{outside, inside, tokens}
use Rattle.meaning.specs.Grammar.{IsSentences, last_sentence_parted, sentence_then, IsFunction, is_function, IsProgram, no_functions, function_then}
use Rattle.meaning.specs.Listing.{sentence_text, sentences_text, function_text, listing}
use Rattle.meaning_accepting.proofs.Reading.Basics.{both_left, both_right, impossible}
use Rattle.meaning_accepting.proofs.RoundTrip.Remaining.{remaining, remaining-whole, remaining-end}
use Rattle.meaning_accepting.proofs.RoundTrip.Words.{blank-passed, after-blank, sign-begins, name-begins}
use Rattle.meaning_accepting.proofs.RoundTrip.Sentences.{sentence-listed}

-- SENTENCES

-- from the line end after `{` to `}`
record SentencesListed (at : ℕ) (ss : List Sentence) (rest : Bytes) : Type 0 where
  past : ℕ
  trees : List Sentence
  same : map unplaced_sentence trees ≡ map unplaced_sentence ss
  derived : IsSentences (remaining inside at (10 ∷ (sentences_text ss ++ 125 ∷ rest))) trees (remaining outside past rest)

sentences-listed : (s : Sentence) (ss : List Sentence) → every allowed_sentence (s ∷ ss) ≡ true → (rest : Bytes) (at : ℕ) →
    SentencesListed at (s ∷ ss) rest
unfolding every sentences_text
sentences-listed s [] allows rest at =
    let one = sentence-listed s (125 ∷ rest) at (both_left (allowed_sentence s) _ allows) in
    let parted = sign-begins inside one.past 59 (10 ∷ 125 ∷ rest) refl in
    let closing = after-blank parted.past 10 refl (sign-begins inside (suc parted.past) 125 rest refl) in
    record {
      past = closing.past;
      trees = one.tree ∷ [];
      same = ap (λ z. z ∷ []) one.same;
      derived = rw (append-nil (sentence_text s)) (last_sentence_parted (rw (parted.tokens, closing.tokens) at one.derived));
    }
sentences-listed s (s' ∷ ss) allows rest at =
    let text : Bytes = sentences_text (s' ∷ ss) ++ 125 ∷ rest in
    let one = sentence-listed s text at (both_left (allowed_sentence s) _ allows) in
    let parted = sign-begins inside one.past 59 (10 ∷ text) refl in
    let others = sentences-listed s' ss (both_right (allowed_sentence s) _ allows) rest parted.past in
    record {
      past = others.past;
      trees = one.tree ∷ others.trees;
      same = ap₂ (λ y ys. y ∷ ys) one.same others.same;
      derived =
          rw (append_assoc (sentence_text s) (sentences_text (s' ∷ ss)) (125 ∷ rest))
          (sentence_then (rw parted.tokens at one.derived) others.derived);
    }

-- FUNCTIONS

record FunctionListed (at : ℕ) (f : Function) (rest : Bytes) : Type 0 where
  past : ℕ
  tree : Function
  same : unplaced_function tree ≡ unplaced_function f
  derived : IsFunction (remaining outside at (function_text f ++ rest)) tree (remaining outside past rest)

function-regroup : (n ss rest : Bytes) → (n ++ 32 ∷ 123 ∷ 10 ∷ (ss ++ 125 ∷ 10 ∷ [])) ++ rest ≡ n ++ 32 ∷ 123 ∷ 10 ∷ (ss ++ 125 ∷ 10 ∷ rest)
function-regroup n ss rest =
    append_assoc n (32 ∷ 123 ∷ 10 ∷ (ss ++ 125 ∷ 10 ∷ [])) rest ∙ ap (λ z. n ++ 32 ∷ 123 ∷ 10 ∷ z) (append_assoc ss (125 ∷ 10 ∷ []) rest)

function-lists : (n : Name) (ss : List Sentence) → spelled_name n ≡ true → some_sentence ss ≡ true → every allowed_sentence ss ≡ true →
    (rest : Bytes) (at : ℕ) →
    FunctionListed at (record { name = n; sentences = ss }) rest
function-lists n [] spelled there allows rest at = impossible there
function-lists n (s ∷ ss) spelled there allows rest at =
    let text : Bytes = 10 ∷ (sentences_text (s ∷ ss) ++ 125 ∷ 10 ∷ rest) in
    let name = name-begins outside (λ at bytes. refl) at n (32 ∷ 123 ∷ text) spelled refl in
    let opening = after-blank name.past 32 refl (sign-begins outside (suc name.past) 123 text refl) in
    let lines = sentences-listed s ss allows (10 ∷ rest) opening.past in
    record {
      past = suc lines.past;
      tree = record { name = n; sentences = lines.trees };
      same = ap (λ z. record { name = n; sentences = z }) lines.same;
      derived =
          rw (function-regroup n (sentences_text (s ∷ ss)) rest, name.tokens, opening.tokens, ← blank-passed outside lines.past 10 rest refl)
          (is_function lines.derived);
    }

function-listed : (f : Function) → allowed_function f ≡ true → (rest : Bytes) (at : ℕ) → FunctionListed at f rest
function-listed f allows =
    let others = both_right (both (spelled_name f.name) (not (is_reserved f.name))) _ allows in
    function-lists f.name f.sentences
    (both_left (spelled_name f.name) _ (both_left (both (spelled_name f.name) (not (is_reserved f.name))) _ allows))
    (both_left (some_sentence f.sentences) _ others)
    (both_right (some_sentence f.sentences) _ others)

-- THE TABLE

record TableListed (at : ℕ) (t : Table) : Type 0 where
  tree : Table
  same : unplaced_table tree ≡ unplaced_table t
  derived : IsProgram (remaining outside at (listing t)) tree

table-listed : (t : Table) → every allowed_function t ≡ true → (at : ℕ) → TableListed at t
unfolding every listing
table-listed [] allows at = record { tree = []; same = refl; derived = rw (remaining-end outside at) no_functions }
table-listed (f ∷ fs) allows at =
    let first = function-listed f (both_left (allowed_function f) _ allows) (listing fs) at in
    let others = table-listed fs (both_right (allowed_function f) _ allows) first.past in
    record {
      tree = first.tree ∷ others.tree;
      same = ap₂ (λ y ys. y ∷ ys) first.same others.same;
      derived = function_then first.derived others.derived;
    }

-- the tokens of a listing derive a tree that is the listed one but for places
pub record Derived (t : Table) : Type 0 where
  pub tree : Table
  pub same : unplaced_table tree ≡ unplaced_table t
  pub derived : IsProgram (tokens (listing t)) tree

pub listing-derived : (t : Table) → allowed t ≡ true → Derived t
listing-derived t allows =
    let listed = table-listed t (both_left (every allowed_function t) _ allows) 0 in
    record { tree = listed.tree; same = listed.same; derived = rw (remaining-whole (listing t)) listed.derived }
