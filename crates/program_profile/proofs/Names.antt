-- The names on the tape of a table text are those of the table's functions.
use Prim.Native.Nat.{ℕ, zero, suc, ◌+◌, ◌%◌, ◌≤◌, ◌<◌}
use native.Mathlib.Omega.{arith}
use mathlib.Core.Bool.{not}
use mathlib.Core.Path.{◌≡◌, refl, ◌∙◌, ap}
use mathlib.Core.List.{List, [], ◌∷◌, map}
use lib.Dec.{T, ltb→lt}
use lib.ListN.{length, take, drop, get_or}
use lib.Seq.{get_or-take, get_or-drop, length-take-le}
use Rattle.meaning.specs.Choice.{Bytes, Name, both, every}
use Rattle.meaning.specs.Tree.{Table}
use Rattle.meaning.specs.Names.{is_reserved}
use Rattle.meaning.specs.Allowed.{is_byte, spelled_name, allowed_function, names_of, max_functions}
use Rattle.meaning.specs.Reading.{Read, accepted, refused, read}
use Rattle.meaning.proofs.Laws.Passing.{both_left, both-pass, every-head, every-tail}
use Rattle.meaning.proofs.Laws.Spelling.{name-bytes, name-short}
use Rattle.tape_words.specs.Words.{name_in, head_name, head_names}
use Rattle.tape_words.proofs.Laws.Names.{name-part}
use Rattle.code_sentences.specs.Trees.{functions_on_tape, function_on_tape, tree_of}
use Rattle.code_table.specs.Declaring.{HeadsInside, words_from, HeadsAll}
use Rattle.code_table.proofs.Laws.Retraced.{tape-retraced}
use Rattle.read_table.specs.declared.Reading.{Reading}
use Rattle.std.specs.Prelude.{Result}
use Rattle.answers.specs.declared.Fault.{Fault}
use Rattle.read_table.specs.Reads.{tree_tape, words_read, Reads}
use Rattle.engine_tables.proofs.Known.{AreBytes, Known, read_known}
use Rattle.program_profile.specs.Profiles.{names_read, NameSpelled, AllSpelled}

-- NAMES

-- the names of the functions found are those of the tree that the words are read as
function-name : (ws : List ℕ) → name_in ws ≡ (function_on_tape ws).name
function-name [] = refl
function-name (w ∷ ws) = refl

names-found : (ws : List (List ℕ)) → map name_in ws ≡ names_of (map function_on_tape ws)
names-found [] = refl
names-found (w ∷ ws) = rw (function-name w, names-found ws)

names-from : (ws heads : List ℕ) → head_names ws heads ≡ map name_in (words_from ws heads)
names-from ws [] = refl
names-from ws (h ∷ hs) = rw (names-from ws hs)

-- those of a read table
tree-names : (x : Read) → Known x → names_of (tree_of (tree_tape x)) ≡ names_read x
unfolding functions_on_tape
tree-names (accepted t) known = ap names_of (tape-retraced t known)
tree-names (refused number place) known = refl

heads-named : {ws heads : List ℕ} {count : ℕ} (x : Read) → Known x → ws ≡ tree_tape x → HeadsAll ws heads count
    → head_names ws (take count heads) ≡ names_read x
heads-named {ws} {heads} {count} x known e all =
    names-from ws (take count heads) ∙ ap (map name_in) all.found ∙ names-found (take max_functions (functions_on_tape ws)) ∙ rw e (tree-names x known)

-- SPELLING

all-spelled : (t : Table) → T (every allowed_function t) → T (every spelled_name (names_of t))
unfolding every
all-spelled [] ok = tt
all-spelled (f ∷ fs) ok =
    both-pass (spelled_name f.name) (every spelled_name (names_of fs))
    (both_left (spelled_name f.name) _ (both_left (both (spelled_name f.name) (not (is_reserved f.name))) _
    (every-head allowed_function f fs ok)))
    (all-spelled fs (every-tail allowed_function f fs ok))

names-spelled : (x : Read) → Known x → T (every spelled_name (names_read x))
unfolding every
names-spelled (accepted t) known = all-spelled t (both_left (every allowed_function t) _ known)
names-spelled (refused number place) known = tt

-- what holds of every name holds of each head's
name-at : (ws heads : List ℕ) (k : ℕ) → k < length heads → T (every spelled_name (head_names ws heads)) → T (spelled_name (head_name ws (get_or heads k 0)))
name-at ws [] k h t = absurd (omega arith)
name-at ws (p ∷ heads) zero h t = every-head spelled_name (head_name ws p) (head_names ws heads) t
name-at ws (p ∷ heads) (suc k) h t = name-at ws heads k (omega arith) (every-tail spelled_name (head_name ws p) (head_names ws heads) t)

-- A NAME'S BYTES

pub byte_at : (n : Name) (i : ℕ) → T (every is_byte n) → get_or n i 0 % 256 ≡ get_or n i 0
unfolding every
byte_at [] i t = refl
byte_at (b ∷ n) zero t = omega (arith, ltb→lt b 256 (every-head is_byte b n t))
byte_at (b ∷ n) (suc i) t = byte_at n i (every-tail is_byte b n t)

heads-spelled : (ws heads : List ℕ) (x : Read) → Known x → head_names ws heads ≡ names_read x → HeadsInside ws heads (length heads) →
    AllSpelled ws heads
heads-spelled ws heads x known e inside k h =
    let spelled = name-at ws heads k h (rw e (names-spelled x known)) in
    record {
      inside = inside k h;
      bytes = name-bytes (head_name ws (get_or heads k 0)) spelled;
      short = name-short (head_name ws (get_or heads k 0)) spelled;
    }

-- THE FUNCTIONS OF A READ TABLE

-- the heads found on its tape have the names of its functions
pub record Heads (text : Bytes) (ws heads : List ℕ) : Type 0 where
  pub named : head_names ws heads ≡ names_read (read text)
  pub spelled : AllSpelled ws heads
  pub few : length heads ≤ max_functions

pub heads-read : {text : Bytes} {r : Result Reading Fault} {tape' : List ℕ} {words : ℕ} (heads : List ℕ) {count : ℕ} → AreBytes text
    → Reads text r tape' → words ≡ words_read r
    → HeadsAll (take words tape') heads count → length heads ≡ max_functions → Heads text (take words tape') (take count heads)
heads-read {text} {r} {tape'} {words} heads {count} bytes reads told all room =
    let known = read_known text bytes in
    let named = heads-named {heads = heads} (read text) known (rw told reads.tape) all in
    let few : length (take count heads) ≡ count = length-take-le count heads (omega (arith, all.few)) in
    record {
      named = named;
      spelled = heads-spelled (take words tape') (take count heads) (read text) known named
          (λ k h. rw (get_or-take count heads k 0 (omega arith)) (all.inside k (omega arith)));
      few = omega (arith, all.few);
    }
