-- What the answers of this crate say: document 01's number and values for each case. Assumes nothing.
use Rattle.std.specs.Prelude.{ℕ, Bool, Option, Result, Some, None, Ok, Err}
use Rattle.util_defs.specs.Width.{Checked, fitting, passes}
use Rattle.util_defs.specs.Refusal.{Outcome, answered, refused}
use Rattle.util_defs.specs.Placed.{Placed, reached, stopped}
use Rattle.util.specs.declared.refusal.Refusal.{Refusal}
use Rattle.util.specs.declared.refusal.Refusal.TheVariants as Refusal
use Rattle.util.specs.declared.refusal.RefusedAt.{RefusedAt}

-- a refusal's number
abbrev pub number_of : Refusal → ℕ
number_of Refusal.AlignNotPowerOfTwo = 1
number_of Refusal.RoundingWordZero = 2
number_of Refusal.PhaseNotBelowAlign = 3
number_of Refusal.SizeNotMultipleOfAlign = 4
number_of Refusal.PackingNotPowerOfTwo = 5
number_of Refusal.AlignAboveMax = 6
number_of Refusal.MemberAfterTrailing = 7
number_of Refusal.RoundingPassesMax = 8
number_of Refusal.MemberPassesMax = 9
number_of Refusal.CastElemSizeZero = 10
number_of Refusal.AddressPassesMax = 11
number_of Refusal.CastNotAligned = 12
number_of Refusal.CastTooSmall = 13
number_of Refusal.NoExactCount = 14
number_of Refusal.NoSize = 15
number_of Refusal.NoRoom = 16
number_of Refusal.AdvancePassesMax = 17
number_of Refusal.ConvertedCountPassesMax = 19
number_of Refusal.RecordLength = 20
number_of Refusal.Kind = 21
number_of Refusal.FixedRecord = 22
number_of Refusal.ScalarCode = 23
number_of Refusal.SliceLength = 24
number_of Refusal.SourceAlignLower = 25
number_of Refusal.FixedSizesDiffer = 26
number_of Refusal.TrailingToFixed = 27
number_of Refusal.SourceNoExactCount = 28
number_of Refusal.TargetElemSizeZero = 29
number_of Refusal.SourceElemSmaller = 30
number_of Refusal.ElemNoMultiple = 31
number_of Refusal.NoShift = 32
number_of Refusal.DescriptionCut = 33
number_of Refusal.TagOrPower = 34
number_of Refusal.NestingTooDeep = 35
number_of Refusal.ElemTrailing = 36
number_of Refusal.ArrayPassesMax = 37
number_of Refusal.BytesLeftOver = 38
number_of Refusal.NoSizeAtZero = 39
number_of Refusal.WordAboveShort = 40
number_of Refusal.OutputShort = 41
number_of Refusal.SpareOrPower = 42
number_of Refusal.NumberPassesWidth = 43
number_of Refusal.CountAboveByte = 44
number_of Refusal.RewriteShort = 45
number_of Refusal.FormBasePassesMax = 46
number_of Refusal.ListsTooLong = 47
number_of Refusal.CasesShort = 48
number_of Refusal.AlignAndPacked = 49
number_of Refusal.AlignModifierInPacked = 50
number_of Refusal.NoCounts = 51
number_of Refusal.EndAboveSize = 52
number_of Refusal.SumPassesMax = 53

-- an answer: a value, as f sees it, or the number of the refusal
abbrev pub says : {T S : Type 0} → (T → S) → Result T Refusal → Outcome S
says f (Ok x) = answered (f x)
says f (Err r) = refused (number_of r)

-- the same about a list
abbrev pub placed_says : {T S : Type 0} → (T → S) → Result T (RefusedAt ℕ) → Placed S
placed_says f (Ok x) = reached (f x)
placed_says f (Err r) = stopped (number_of r.refusal) r.place

-- nothing is given but that it is accepted
abbrev pub accepted : Unit {0} → Unit {0}
accepted u = tt

abbrev pub number_says : Result ℕ Refusal → Outcome ℕ
number_says = says (λ n. n)

abbrev pub decision_says : Result Bool Refusal → Outcome Bool
decision_says = says (λ b. b)

abbrev pub product_says : Option ℕ → Checked
product_says (Some n) = fitting n
product_says None = passes
