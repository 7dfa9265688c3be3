-- How a proof goes down the rows of a table.
use Rattle.std.proofs.Common.{ℕ, zero, suc, ◌<◌, Bool, true, false, not, ◌&&◌, ◌≡◌, refl, sym, ap, ◌∙◌, arith, eqb, lt-ltb, le-ltb, le-leb, eq-eqb}
use Rattle.std.proofs.Common.{ne_eqb, Result, Ok, Err, is_err}
use borrow.Author.Tests.{lt-leb}
use Rattle.std.specs.Prelude.{⊤}
use Rattle.words.specs.First.{◌if◌else◌, fine, refuse}

-- this row answers
pub hit : {A : Type 0} (n : A) (b : Bool) (rest : A) → b ≡ true → n ≡ (n if b else rest)
unfolding ◌if◌else◌
hit n b rest e = rw e

-- this row does not apply
pub miss : {A : Type 0} (n : A) (b : Bool) (rest r : A) → b ≡ false → r ≡ rest → r ≡ (n if b else rest)
unfolding ◌if◌else◌
miss n b rest r e h = rw e h

-- the table says something else than this row: this row does not apply, and the rows after it say it
pub other : {A : Type 0} (n : A) (b : Bool) (rest : A) {r : A} → (n ≡ r → ⊥) → (n if b else rest) ≡ r → (b ≡ false) × (rest ≡ r)
unfolding ◌if◌else◌
other n true rest h e = absurd (h e)
other n false rest h e = (refl, e)

-- no row refuses: not this one, and none after it
pub pass : {E : Type 0} (e : E) (b : Bool) (rest : Result ⊤ E) → (Err e if b else rest) ≡ fine → (b ≡ false) × (rest ≡ fine)
pass e b rest h = other (Err e) b rest (λ z. cc) h

-- a stage refuses; a stage refuses nothing
pub refuse_some : {A E : Type 0} {m : Result ⊤ E} {e : E} (by : E → A) (rest : A) → m ≡ Err e → by e ≡ refuse m by rest
unfolding refuse
refuse_some by rest h = rw h

pub refuse_none : {A E : Type 0} {m : Result ⊤ E} (by : E → A) (rest : A) → m ≡ fine → refuse m by rest ≡ rest
unfolding refuse
refuse_none by rest h = rw h

-- the answer is none that refuses: the stage refuses nothing, and what comes after says it
pub refuse_other : {A E : Type 0} (m : Result ⊤ E) (by : E → A) (rest : A) {x : A} → ((e : E) → by e ≡ x → ⊥) → refuse m by rest ≡ x
    → (m ≡ fine) × (rest ≡ x)
unfolding refuse
refuse_other (Ok u) by rest h e = (refl, e)
refuse_other (Err n) by rest h e = absurd (h _ e)

pub eq_not : (a b : ℕ) → a ≡ b → not (eqb a b) ≡ false
eq_not a b h = ap not (eq-eqb a b h)

pub ne_not : (a b : ℕ) → (a ≡ b → ⊥) → not (eqb a b) ≡ true
ne_not a b h = ap not (ne_eqb a b h)

-- the same of a number r that was read
pub eq_via : (a b r : ℕ) → r ≡ a → r ≡ b → not (eqb a b) ≡ false
eq_via a b r p q = eq_not a b (sym p ∙ q)

pub ne_via : (a b r : ℕ) → r ≡ a → (r ≡ b → ⊥) → not (eqb a b) ≡ true
ne_via a b r p q = ne_not a b (λ e. q (p ∙ e))

pub eqb_via : (a b r : ℕ) → r ≡ a → r ≡ b → eqb a b ≡ true
eqb_via a b r p q = eq-eqb a b (sym p ∙ q)

pub neb_via : (a b r : ℕ) → r ≡ a → (r ≡ b → ⊥) → eqb a b ≡ false
neb_via a b r p q = ne_eqb a b (λ e. q (p ∙ e))

-- the same of a flag r that was handed back
pub yes_via : (b r : Bool) → r ≡ b → r ≡ true → b ≡ true
yes_via b r p q = sym p ∙ q

pub no_via : (b r : Bool) → r ≡ b → r ≡ false → b ≡ false
no_via b r p q = sym p ∙ q

pub not_via : (b r t : Bool) → r ≡ b → not r ≡ t → not b ≡ t
not_via b r t p q = ap not (sym p) ∙ q

-- two tests in one row
pub and_both : (a b : Bool) → a ≡ true → b ≡ true → (a && b) ≡ true
and_both a b p q = rw (p, q)

pub and_first : (a b : Bool) → a ≡ false → (a && b) ≡ false
and_first a b p = rw p

pub and_second : (a b : Bool) → a ≡ true → b ≡ false → (a && b) ≡ false
and_second a b p q = rw (p, q)

-- what a branch's fact says of a row's test, and what a row's test says of the table's answer
pub ruleset rows = (
  hit,
  miss,
  lt-ltb,
  le-ltb,
  le-leb,
  lt-leb,
  eq_not,
  ne_not,
  eq_via,
  ne_via,
  eqb_via,
  neb_via,
  yes_via,
  no_via,
  not_via,
  eq-eqb,
  ne_eqb,
  and_both,
  and_first,
  and_second,
)
