-- `recorded::replay` meets its contract. Assumes nothing.
use Rattle.std.proofs.Common.{◌≡◌, ℕ, ◌<◌, Bool, false, List, refl, sym, ap, ◌∙◌, subst, length, rules}
use Rattle.std.proofs.lemmas.Fn.{says_at}
use Rattle.std.specs.Prelude.{Option, Some, None}
use Rattle.std.specs.Option.{MatchOption}
use Rattle.recorded_defs.specs.Lines.{line, unread, line_at}
use Rattle.recorded.specs.declared.Told.{Told}
use Rattle.recorded.specs.declared.Tally.{Tally}
use Rattle.recorded.specs.View.{line_says, counted}
use Rattle.recorded.specs.Tallies.{Tallies, ended, no_line, goes_on, agreed}
use Rattle.recorded.proofs.replay.Goals as goal

-- whether a line agrees with what may be told, where what was told is asked
agreed_by : (ns : List ℕ) (count : ℕ) (o : Option Told) {b : Bool} {P : Told → Type 0} → MatchOption o (b ≡ false) P
    → ((t : Told) → P t → b ≡ agreed ns count (Some t)) → b ≡ agreed ns count o
agreed_by ns count None m f = m
agreed_by ns count (Some t) m f = f t m

-- one line before what comes behind it
one_before : {tells : List ℕ → Option Told → Type 0} {s ns : List ℕ} {at count next : ℕ} {t u : Tally} {b : Bool} {r : Tally} (told : Option Told)
    → line_at s at ≡ line ns count next → at < length s → tells ns told → b ≡ agreed ns count told → r ≡ counted t b
    → Tallies tells s next r u → Tallies tells s at t u
one_before {tells} {s} {ns} {at} {count} {next} {t} {u} told e less p q k h =
    goes_on told less e p (subst (λ (r : Tally). Tallies tells s next r u) (k ∙ ap (counted t) q) h)

-- a line that does not read as numbers
last_line : {tells : List ℕ → Option Told → Type 0} {s : List ℕ} {at : ℕ} {t r : Tally} → at < length s → line_at s at ≡ unread → r ≡ counted t false
    → Tallies tells s at t r
last_line {tells} {s} {at} {t} less e k = subst (λ (r : Tally). Tallies tells s at t r) (sym k) (no_line less e)

pub loop-at-init : goal.loop-at-init
loop-at-init g c = λ u h. h

pub returns-in_default : goal.returns-in_default
returns-in_default g c =
    c.loop-at.invariant c.with_line.result (last_line c.loop-at-test.true (sym c.read_line.ensures.answer ∙ ap line_says c.in_default.is) c.with_line.ensures)

pub loop-at-preserved : goal.loop-at-preserved
loop-at-preserved g c = λ u h.
    c.loop-at.invariant u (one_before c.call.result (sym c.read_line.ensures.answer ∙ ap line_says c.in-Some.is) c.loop-at-test.true (says_at g.F.Fn c.call.ensures refl) (agreed_by c.in-Some.line.numbers c.in-Some.line.count c.call.result c.is_some_and-agrees.ensures (λ t p. search rules)) c.with_line-tally.ensures h)

pub returns : goal.returns
returns g c = c.loop-at.invariant c.loop-at.tally (ended c.loop-at-test.false)
