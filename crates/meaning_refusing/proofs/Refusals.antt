-- Demand 2 on refusals: which number and place a refused text gets, told without the reader. With `accepted-exactly` both outcomes of reading are
-- fixed.
use Prim.Native.Nat.{ℕ, suc, ◌≤◌}
use mathlib.Core.Path.{◌≡◌, sym}
use mathlib.Core.Logic.{◌↔◌}
use mathlib.Core.Bool.{true}
use mathlib.Core.List.{List, [], ◌∷◌, ◌++◌, append-nil}
use native.Mathlib.Omega.{arith}
use lib.ListN.{length, take}
use Rattle.meaning.specs.Choice.{Bytes, every}
use Rattle.meaning.specs.Allowed.{is_byte, max_table}
use Rattle.meaning.specs.Tokens.{outside, Placed, tokens, is_text_end}
use Rattle.meaning.specs.Reading.{read, read_functions, verdict, refused}
use Rattle.meaning_accepting.proofs.Reading.Local.{agree-take, tokens-local}
use Rattle.meaning_accepting.proofs.Reading.TextEnd.{text-end}
use Rattle.meaning_refusing.specs.Faults.{Viable, Quota, quota_after, Fault, not_formed, not_viable, not_within, not_named, not_pattern, not_later}
use Rattle.meaning_refusing.specs.Faults.{FirstFault, RefusedWithin, Refused, too_long, at_token, after_reading}
use Rattle.meaning_refusing.proofs.Computed.{faults_of}
use Rattle.meaning_refusing.proofs.Deciding.{Among, decided, viable-unless}
use Rattle.meaning_refusing.proofs.Exactly.{refused-so}

-- A text of bytes is refused with a number at a place exactly when the definition of refused texts says so: with 1 at 0 where it is too long; with 2
-- to 7 where the shortest beginning of its tokens that has a fault ends, with the lowest of its faults; with 8 at the first undeclared call where no
-- beginning has one.
pub refused-exactly : (text : Bytes) → every is_byte text ≡ true → (n k : ℕ) → (read text ≡ refused n k) ↔ Refused text n k
refused-exactly = refused-so (quota_after 0 0)

-- The same for a text that is read after other functions and sentences, with the limits that are left.
pub refused-after : (functions_before sentences_before : ℕ) (text : Bytes) → every is_byte text ≡ true → (n k : ℕ)
    → (verdict (read_functions functions_before sentences_before text) ≡ refused n k) ↔ RefusedWithin
    (quota_after functions_before sentences_before) text n k
refused-after functions_before sentences_before = refused-so (quota_after functions_before sentences_before)

-- The faults of tokens are those that are computed for the worked rows.
pub faults-computed : (quota : Quota) (ts : List Placed) (n : ℕ) → Fault quota ts n ↔ Among n (faults_of quota ts)
faults-computed = decided

-- Every number is one of 01's.
pub refusal-numbers : {text : Bytes} {n k : ℕ} → Refused text n k → (1 ≤ n) × (n ≤ 8)
refusal-numbers (too_long l) = (omega arith, omega arith)
refusal-numbers (at_token l f) = fault-numbers f.fault
  where
    fault-numbers : {ts : List Placed} {n : ℕ} → Fault (quota_after 0 0) ts n → (1 ≤ n) × (n ≤ 8)
    fault-numbers (not_formed e) = (omega arith, omega arith)
    fault-numbers (not_viable h) = (omega arith, omega arith)
    fault-numbers (not_within e) = (omega arith, omega arith)
    fault-numbers (not_named e) = (omega arith, omega arith)
    fault-numbers (not_pattern e) = (omega arith, omega arith)
    fault-numbers (not_later e) = (omega arith, omega arith)
refusal-numbers (after_reading l h u) = (omega arith, omega arith)

-- What a refusal with 2 to 7 says besides: the tokens before its token go on to a program of the grammar (but for names and empty strings), and it
-- depends on the text only up to one byte past its token: every text that agrees up to there is refused alike.
pub record AtToken (text : Bytes) (n k : ℕ) : Type 0 where
  pub before : List Placed
  pub token : Placed
  pub after : List Placed
  pub shape : tokens text ≡ before ++ token ∷ after
  pub place : token.place ≡ k
  pub viable : Viable before
  pub alike : (other : Bytes) → every is_byte other ≡ true → length other ≤ max_table
      → take (suc token.past) other ≡ take (suc token.past) text → read other ≡ refused n k

first-at : (text : Bytes) (n k : ℕ) → FirstFault (quota_after 0 0) (tokens text) n k → AtToken text n k
first-at text n k f =
    record {
      before = f.before;
      token = f.token;
      after = f.after;
      shape = f.shape;
      place = f.place;
      viable = viable-unless (quota_after 0 0) f.before (f.sound f.before [] (sym (append-nil f.before)) 3);
      alike = λ other s l e.
          let until = suc f.token.past in
          let (more, same) =
          tokens-local (suc (length text)) (suc (length other)) outside 0 text other f.before f.token f.after f.shape
          (agree-take until until 0 text other (omega arith) (sym e)) (omega arith)
          in
          (refused-exactly other s n k).1
          (at_token l
          (record {
            before = f.before;
            token = f.token;
            after = more;
            shape = same;
            place = f.place;
            sound = f.sound;
            fault = f.fault;
            lowest = f.lowest;
          }));
    }

pub leftmost-fault : (text : Bytes) → every is_byte text ≡ true → (n k : ℕ) → read text ≡ refused n k → 2 ≤ n → n ≤ 7 → AtToken text n k
leftmost-fault text s n k e low high = by ((refused-exactly text s n k).0 e) low high
  where
    by : {n k : ℕ} → Refused text n k → 2 ≤ n → n ≤ 7 → AtToken text n k
    by (too_long l) low high = absurd (omega arith)
    by (at_token {n = n} {k = k} l f) low high = first-at text n k f
    by (after_reading l h u) low high = absurd (omega arith)

-- The end of the text is a token whose place is the text's length: 01, 3, "end of text: its length".
pub end-of-text : (text : Bytes) (before : List Placed) (t : Placed) (after : List Placed) → tokens text ≡ before ++ t ∷ after
    → is_text_end t.token ≡ true → t.place ≡ length text
end-of-text = text-end
