-- The heads of the functions that were read: the names there are the functions', and they stay so as the tape is written on.
use Prim.Native.Nat.{ℕ, ◌+◌, ◌≤◌, ◌<◌}
use mathlib.Core.Path.{◌≡◌, refl, sym, ◌∙◌, ap}
use mathlib.Core.List.{List, [], ◌∷◌, ◌++◌, append_assoc}
use native.Mathlib.Nat.{add-zero}
use native.Mathlib.Omega.{arith}
use lib.Dec.{ltb→lt}
use lib.ListN.{length, take, drop, length-append, take-append-drop}
use lib.Seq.{sets-eq, length-sets, take_at, take-append_seam, drop-append_seam}
use Rattle.meaning.specs.Tree.{Function, Table}
use Rattle.meaning.specs.Allowed.{names_of}
use Rattle.meaning.proofs.Laws.Passing.{every-head}
use Rattle.tape_layout.specs.Tape as Tape
use Rattle.tape_layout.specs.Tape.{call_word, tape_word, function_kind, function_tape, sentences_tape}
use Rattle.tape_words.specs.Words.{carried, head_name, head_names}
use Rattle.read_bookkeeping.specs.Written.{written_from, is_quiet, Went}
use Rattle.read_functions.specs.Sentences.{Each}
use Rattle.read_functions.specs.Functions.{FunctionStands, heads_from, Heads}

-- WORDS WRITTEN FROM THE FIRST ON

-- they are the first words
pub begins : {text start tape words : List ℕ} {at count : ℕ} → Went text 0 0 start at count tape words → length text ≤ length tape
    → take count tape ≡ words
unfolding written_from
begins {start = start} {tape} {words} {count = count} w room =
    let same : length tape ≡ length start = rw w.wrote (length-sets start 0 words) in
    let counts : count ≡ length words = omega (arith, w.counted) in
    let fits : 0 + length words ≤ length start = omega (arith, counts, w.charged, w.inside) in
    rw (counts, w.wrote, sets-eq words start 0 fits) (take_at words (drop (0 + length words) start) (length words) refl)

-- ONE MORE

pub heads-more : (fs : Table) (f : Function) (at : ℕ) → heads_from at (fs ++ f ∷ []) ≡ heads_from at fs ++ (at + length (Tape.tape fs)) ∷ []
unfolding heads_from Tape.tape
heads-more [] f at = rw (add-zero at)
heads-more (g ∷ fs) f at =
    let e : at + length (function_tape g ++ Tape.tape fs) ≡ at + length (function_tape g) + length (Tape.tape fs) =
    rw (length-append (function_tape g) (Tape.tape fs)) (omega arith) in
    rw e (ap (λ (hs : List ℕ). at ∷ hs) (heads-more fs f (at + length (function_tape g))))

-- THE NAMES

-- the name after a function's word
name-there : (f : Function) (ws : List ℕ) → FunctionStands f → head_name (function_tape f ++ ws) 0 ≡ f.name
name-there f ws s =
    let n = f.name in
    let word = tape_word function_kind (length n) in
    let low : word < call_word = ltb→lt word call_word (every-head is_quiet word n s.name) in
    let size : carried word ≡ length n = omega arith in
    rw (size, append_assoc n (sentences_tape f.sentences) ws) (take-append_seam n (sentences_tape f.sentences ++ ws))

-- of functions whose words stand after others, and before others again
names-there : (t : Table) (before after : List ℕ) → Each FunctionStands t
    → head_names (before ++ (Tape.tape t ++ after)) (heads_from (length before) t) ≡ names_of t
unfolding heads_from Tape.tape Each
names-there [] before after s = refl
names-there (f ∷ fs) before after s =
    let ws = function_tape f in
    let e : (ws ++ Tape.tape fs) ++ after ≡ ws ++ (Tape.tape fs ++ after) = append_assoc ws (Tape.tape fs) after in
    let first : head_name (before ++ (ws ++ (Tape.tape fs ++ after))) (length before) ≡ f.name =
    rw (drop-append_seam before (ws ++ (Tape.tape fs ++ after))) (name-there f (Tape.tape fs ++ after) s.0) in
    let others : head_names (before ++ (ws ++ (Tape.tape fs ++ after))) (heads_from (length before + length ws) fs) ≡ names_of fs =
    rw (← (append_assoc before ws (Tape.tape fs ++ after)), ← (length-append before ws)) (names-there fs (before ++ ws) after s.1) in
    let joined : head_names (before ++ (Tape.tape (f ∷ fs) ++ after)) (heads_from (length before) (f ∷ fs))
    ≡ head_names (before ++ (ws ++ (Tape.tape fs ++ after))) (heads_from (length before) (f ∷ fs)) =
    ap (λ (us : List ℕ). head_names (before ++ us) (heads_from (length before) (f ∷ fs))) e in
    joined ∙ rw (first, others)

-- the names at the heads that were noted are those of the functions
pub names-noted : {tape heads : List ℕ} {words functions : ℕ} {t : Table} → Heads tape heads words functions t
    → head_names tape (take functions heads) ≡ names_of t
names-noted {tape} {words = words} {t = t} k =
    let e : tape ≡ Tape.tape t ++ drop words tape =
    sym (take-append-drop words tape) ∙ ap (λ (ws : List ℕ). ws ++ drop words tape) k.written in
    ap (head_names tape) k.noted ∙ ap (λ (ws : List ℕ). head_names ws (heads_from 0 t)) e ∙ names-there t [] (drop words tape) k.stand

-- what is written after them changes nothing
pub noted-kept : {tape tape' heads : List ℕ} {words functions : ℕ} {t : Table} → Heads tape heads words functions t
    → take words tape' ≡ take words tape
    → Heads tape' heads words functions t
noted-kept k e = record { written = e ∙ k.written; noted = k.noted; stand = k.stand }
