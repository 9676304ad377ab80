-- What writing all cases means. Assumes nothing.
use mathlib.Core.Path.{◌≡◌, refl, sym, ap, subst, ◌∙◌}
use mathlib.Core.List.{List, ◌++◌}
use Prim.Native.Nat.{ℕ, ◌*◌, ◌≤◌, ◌<◌}
use lib.ListN.{length, drop}
use native.Mathlib.Omega.{arith}
use borrow.Author.Tests.{lt-ltb, le-ltb}
use Rattle.util_defs.specs.Refusal.{Outcome, answered, refused, unless, Decided, Meets, answers, refuses}
use Rattle.util_defs.proofs.Refusals.{tells_lt, meets, one_number, no_number}
use Rattle.cases_defs.specs.Cases.{Case, cases_to, list_count, greatest_length, case_length, cases_bytes}
use Rattle.cases_defs.specs.Write.{write_causes, cases_for, count_written, filled_with, WriteMeans}
use Rattle.cases_defs.proofs.Listed.{all_cases, one_list}
use Rattle.cases_defs.proofs.Counted.{count, bytes_length}

pub write_decided : (n m : ℕ) → Decided (write_causes n m)
write_decided n m = (tells_lt greatest_length n, λ _. (tells_lt m (case_length * length (cases_to n)), λ _. tt))

-- what is written is all cases, or nothing
pub write_means : (n : ℕ) (old : List ℕ) → WriteMeans n old (filled_with (cases_for n (length old)) old) (count_written (cases_for n (length old)))
unfolding cases_for
write_means n old =
    go (unless (write_causes n (length old)) (cases_bytes (cases_to n))) (meets (write_causes n (length old)) (cases_bytes (cases_to n)) (write_decided n (length old)) (λ _. refl))
  where
    go : (o : Outcome (List ℕ)) → Meets (write_causes n (length old)) (λ bs. bs ≡ cases_bytes (cases_to n)) o → WriteMeans n old (filled_with o old) (count_written o)
    go (answered bs) (answers none e) = (
      none,
      record {
        cases = cases_to n;
        all = all_cases n;
        bytes = ap (λ (x : List ℕ). x ++ drop (length bs) old) e;
        count = ap length e ∙ bytes_length n (omega (arith, none.0));
      },
    )
    go (refused k) (refuses f) = (f, refl)

-- and nothing else is
pub one_written : (n : ℕ) (old new new' : List ℕ) (o u : Outcome ℕ) → WriteMeans n old new o → WriteMeans n old new' u → (o ≡ u) × (new ≡ new')
one_written n old new new' (answered b) (answered b') (p, x) (q, y) =
    let e : x.cases ≡ y.cases = one_list n x.cases y.cases x.all y.all in
    let d : b ≡ b' = x.count ∙ ap (λ (cs : List Case). case_length * length cs) e ∙ sym y.count in
    (ap answered d, x.bytes ∙ (λ i. cases_bytes (e i) ++ drop (d i) old) ∙ sym y.bytes)
one_written n old new new' (answered b) (refused k) (p, x) (q, y) = absurd (no_number (write_causes n (length old)) k p q)
one_written n old new new' (refused k) (answered b) (p, x) (q, y) = absurd (no_number (write_causes n (length old)) k q p)
one_written n old new new' (refused k) (refused j) (p, x) (q, y) = (ap refused (one_number (write_causes n (length old)) k j p q), x ∙ sym y)

-- ---- each way out ----

room : (n : ℕ) → case_length * length (cases_to n) ≡ 40 * list_count n
room n = omega (arith, count n)

-- a length above 6; a buffer that is too short; neither
pub too_long : (n m : ℕ) → greatest_length < n → cases_for n m ≡ refused 47
unfolding cases_for unless
too_long n m h = rw (lt-ltb greatest_length n h) refl

pub too_short : (n m : ℕ) → n ≤ greatest_length → m < 40 * list_count n → cases_for n m ≡ refused 48
unfolding cases_for unless
too_short n m h g = rw (le-ltb greatest_length n h, lt-ltb m (case_length * length (cases_to n)) (omega (arith, room n))) refl

pub fits : (n m : ℕ) → n ≤ greatest_length → 40 * list_count n ≤ m → cases_for n m ≡ answered (cases_bytes (cases_to n))
unfolding cases_for unless
fits n m h g = rw (le-ltb greatest_length n h, le-ltb m (case_length * length (cases_to n)) (omega (arith, room n))) refl

pub all_bytes : (n : ℕ) → n ≤ greatest_length → length (cases_bytes (cases_to n)) ≡ 40 * list_count n
all_bytes n h = bytes_length n h ∙ room n

-- what comes of an outcome of the writing
abbrev pub Wrote : ℕ → List ℕ → List ℕ → Outcome ℕ → Type 0
Wrote n old new o =
    (o ≡ count_written (cases_for n (length old))) × ((new ≡ filled_with (cases_for n (length old)) old) × WriteMeans n old new o)

pub wrote : (n : ℕ) (old new : List ℕ) (o : Outcome ℕ) (u : Outcome (List ℕ)) → cases_for n (length old) ≡ u → o ≡ count_written u → new ≡ filled_with u old
    → Wrote n old new o
wrote n old new o u e c f =
    let c' : o ≡ count_written (cases_for n (length old)) = c ∙ ap count_written (sym e) in
    let f' : new ≡ filled_with (cases_for n (length old)) old = f ∙ ap (λ (x : Outcome (List ℕ)). filled_with x old) (sym e) in
    (c', (f', subst (λ (x : Outcome ℕ). WriteMeans n old new x) (sym c') (subst (λ (x : List ℕ). WriteMeans n old x (count_written (cases_for n (length old)))) (sym f') (write_means n old))))
