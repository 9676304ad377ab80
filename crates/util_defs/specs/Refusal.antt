-- Refusals: document 01, "When a call says no". Assumes nothing.
use Rattle.std.specs.Prelude.{◌≡◌, Bool, true, false, cond, List, [], ◌∷◌, ◌⊎◌, ℕ}

-- what a call gives: what was asked for, or the number of the refusal
pub data Outcome (T : Type 0) : Type 0 where
  answered : T → Outcome T
  refused : ℕ → Outcome T

-- a cause of refusal: its number, the test of it, and the statement that the test decides
pub record Cause : Type 1 where
  pub number : ℕ
  pub test : Bool
  pub means : Type 0

-- a refusal table is a list of causes in the order tested: the first that applies refuses; where none does, x is the answer
unfoldable pub unless : {T : Type 0} → List Cause → T → Outcome T
unless [] x = answered x
unless (c ∷ cs) x = cond c.test (refused c.number) (unless cs x)

-- the answer of a test tells whether P holds
pub data Tells (P : Type 0) : Bool → Type 0 where
  holds : P → Tells P true
  fails : (P → ⊥) → Tells P false

-- the answer of a test tells whether P holds, and a yes means Q besides
pub record YesMeans (P Q : Type 0) (r : Bool) : Type 0 where
  pub exactly : Tells P r
  pub means : r ≡ true → Q

-- no cause of the table holds
abbrev pub None : List Cause → Type 0
None [] = Unit {0}
None (c ∷ cs) = (c.means → ⊥) × None cs

-- k is the number of the first cause of the table that holds
abbrev pub First : List Cause → ℕ → Type 0
First [] k = ⊥
First (c ∷ cs) k = (c.means × (k ≡ c.number)) ⊎ ((c.means → ⊥) × First cs k)

-- what an outcome means: answered, no cause holds and P does of what was answered; refused, by the first cause that holds
pub data Meets {T : Type 0} (cs : List Cause) (P : T → Type 0) : Outcome T → Type 0 where
  answers : {x : T} → None cs → P x → Meets cs P (answered x)
  refuses : {k : ℕ} → First cs k → Meets cs P (refused k)

-- each test of a table decides its statement, where no cause before it holds
abbrev pub Decided : List Cause → Type 0
Decided [] = Unit {0}
Decided (c ∷ cs) = Tells c.means c.test × ((c.means → ⊥) → Decided cs)
