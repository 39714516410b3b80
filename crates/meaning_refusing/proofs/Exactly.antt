-- Which number and place a refused text gets: the reader's and the definition's are the same.
use Prim.Native.Nat.{ℕ, zero, suc, ◌≤◌}
use mathlib.Core.Path.{◌≡◌, refl, sym, ap, ◌∙◌, subst}
use mathlib.Core.Logic.{◌↔◌}
use mathlib.Core.Bool.{Bool, true, false}
use mathlib.Core.List.{List, []}
use mathlib.Core.Option.{Option, none, some}
use native.Mathlib.Omega.{arith}
use borrow.Author.Tests.{leb-true, leb-false, le-leb}
use lib.Dec.{leb}
use lib.ListN.{length}
use Rattle.meaning.specs.Choice.{Bytes, pick, every}
use Rattle.meaning.specs.Answers.{table_too_long, undeclared_name}
use Rattle.meaning.specs.Tree.{Table}
use Rattle.meaning.specs.Allowed.{is_byte, distinct, max_table}
use Rattle.meaning.specs.Tokens.{outside, Placed, tokens}
use Rattle.meaning.specs.Reading.{Parsed, stopped, parsed, parse_functions, unknown_in, known, verdict, refused}
use Rattle.meaning_accepting.proofs.Reading.TokensSound.{tokens-sound}
use Rattle.meaning_accepting.proofs.Reading.Tables.{functions-sound}
use Rattle.meaning_accepting.proofs.Reading.Accepted.{no-refusal}
use Rattle.meaning_accepting.proofs.Reading.Lexing.{ended, tokens-ended}
use Rattle.meaning_refusing.specs.Faults.{Quota, Faultless, FirstFault, undeclared, RefusedWithin, too_long, at_token, after_reading}
use Rattle.meaning_refusing.proofs.Told.{Trace, Told}
use Rattle.meaning_refusing.proofs.InSentences.{lt-leb}
use Rattle.meaning_refusing.proofs.InTable.{ended-closed, Whole, table-told}
use Rattle.meaning_refusing.proofs.First.{stops_first, passed-whole, never-cut, no-first, one-first}
use Rattle.meaning_refusing.proofs.Undeclared.{unknown-program}

known-refused : (o : Option ℕ) (t : Table) (n k : ℕ) → known o t ≡ refused n k → (n ≡ undeclared_name) × (o ≡ some k)
known-refused none t n k e = no-refusal n k t (sym e)
known-refused (some p) t n k e =
    let number : undeclared_name ≡ n = cc in
    let place : p ≡ k = cc in
    (sym number, ap some place)

module _ (quota : Quota) (text : Bytes) where
  abbrev result : Parsed Table
  result = parse_functions quota.functions quota.sentences [] (tokens text)

  abbrev Tells : Parsed Table → Type 0
  Tells x = Told quota (Whole quota) [] (tokens text) x

  ends : ended (tokens text) ≡ true
  ends = tokens-ended (suc (length text)) outside 0 text (omega arith)

  tells : Tells result
  tells = table-told quota (tokens text) (ended-closed (tokens text) ends)

  whole-faultless : (t : Table) (rest : List Placed) → Tells (parsed t rest) → Faultless quota (tokens text)
  whole-faultless t rest r = passed-whole quota (tokens text) r.used (subst (λ z. Trace quota [] (tokens text) r.used z) r.holds r.trace)

  -- at a token
  token-refused : (n k : ℕ) → FirstFault quota (tokens text) n k → (x : Parsed Table) → Tells x → verdict x ≡ refused n k
  token-refused n k f (stopped zero p) r = absurd (never-cut quota (tokens text) ends r)
  token-refused n k f (stopped (suc m) p) r =
      let (number, place) = one-first quota (tokens text) (suc m) p n k (stops_first quota (tokens text) m p r) f in
      cc
  token-refused n k f (parsed t rest) r = absurd (no-first quota (tokens text) n k (whole-faultless t rest r) f)

  module _ (s : every is_byte text ≡ true) where
    -- the tree that is read and the tokens have the same first unknown call
    unknown-same : (t : Table) (rest : List Placed) → result ≡ parsed t rest → undeclared (tokens text) ≡ unknown_in t t
    unfolding distinct
    unknown-same t rest e =
        let sound = tokens-sound (suc (length text)) outside 0 text s in
        let r = functions-sound quota.functions quota.sentences [] (tokens text) t rest sound refl e in
        let same = r.whole in
        unknown-program (tokens text) t (rw same r.derived) (rw same r.allowed)

    -- after reading
    call-refused : (k : ℕ) → Faultless quota (tokens text) → undeclared (tokens text) ≡ some k → (x : Parsed Table) → result ≡ x → Tells x
        → verdict x ≡ refused undeclared_name k
    call-refused k h u (stopped zero p) q r = absurd (never-cut quota (tokens text) ends r)
    call-refused k h u (stopped (suc m) p) q r = absurd (no-first quota (tokens text) (suc m) p h (stops_first quota (tokens text) m p r))
    call-refused k h u (parsed t rest) q r = rw (sym (unknown-same t rest q) ∙ u)

    from-result : (n k : ℕ) → length text ≤ max_table → (x : Parsed Table) → result ≡ x → Tells x → verdict x ≡ refused n k
        → RefusedWithin quota text n k
    from-result n k l (stopped zero p) q r e = absurd (never-cut quota (tokens text) ends r)
    from-result n k l (stopped (suc m) p) q r e =
        let number : suc m ≡ n = cc in
        let place : p ≡ k = cc in
        subst (λ z. RefusedWithin quota text z k) number
        (subst (λ z. RefusedWithin quota text (suc m) z) place (at_token l (stops_first quota (tokens text) m p r)))
    from-result n k l (parsed t rest) q r e =
        let (number, place) = known-refused (unknown_in t t) t n k e in
        subst (λ z. RefusedWithin quota text z k) (sym number) (after_reading l (whole-faultless t rest r) (unknown-same t rest q ∙ place))

    from-text : (q : Bool) (n k : ℕ) → leb (length text) max_table ≡ q → verdict (pick q result (stopped table_too_long 0)) ≡ refused n k
        → RefusedWithin quota text n k
    from-text true n k p e = from-result n k (leb-true (length text) max_table p) result refl tells e
    from-text false n k p e =
        let number : table_too_long ≡ n = cc in
        let place : 0 ≡ k = cc in
        subst (λ z. RefusedWithin quota text z k) number
        (subst (λ z. RefusedWithin quota text table_too_long z) place (too_long (leb-false (length text) max_table p)))

    to-text : (n k : ℕ) → RefusedWithin quota text n k → verdict (pick (leb (length text) max_table) result (stopped table_too_long 0)) ≡ refused n k
    to-text _ _ (too_long l) = rw (lt-leb (length text) max_table l)
    to-text n k (at_token l f) = rw (le-leb (length text) max_table l) (token-refused n k f result tells)
    to-text _ k (after_reading l h u) = rw (le-leb (length text) max_table l) (call-refused k h u result refl tells)

    pub refused-so : (n k : ℕ)
        → (verdict (pick (leb (length text) max_table) result (stopped table_too_long 0)) ≡ refused n k) ↔ RefusedWithin quota text n k
    refused-so n k = (λ e. from-text (leb (length text) max_table) n k refl e, to-text n k)
