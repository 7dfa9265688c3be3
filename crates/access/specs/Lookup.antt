-- Lookup in one file: the crate's fan bounds and halving, as a function on any bytes; and the ids that a file stores.
use Rattle.std.specs.Prelude.{ℕ, zero, suc, ◌+◌, ◌-◌, ◌*◌, ◌/◌, ◌≤◌, ◌<◌, List, not, ◌≡◌, ◌⊎◌, length, get_or, take, drop, ltb, leb, eqb, Option}
use Rattle.std.specs.Prelude.{Some, None, Result, Ok, Err}
use Rattle.types.specs.Refusals.{refusal}
use Rattle.types.specs.declared.refusal.Reason.{Reason}
use Rattle.types.specs.declared.refusal.Refusal.{Refusal}
use Rattle.types.specs.declared.file.Position.{Position}
use Rattle.words.specs.Big.{be, number}
use Rattle.words.specs.First.{◌if◌else◌, fine, refuse}
use Rattle.std.specs.declared.cmp.Ordering.{Ordering}
use Rattle.std.specs.declared.cmp.Ordering.TheVariants.{Less, Equal, Greater}
use Rattle.std.specs.Ordering.{nat_cmp}
use Rattle.fit.specs.Fits.{fit_rule, fan_part, ids_part}
use Rattle.file.specs.Table.{opening}
use Rattle.file.specs.declared.File.{File}

-- an answer of a lookup: the position that stores the id, or none, or a refusal
abbrev pub Found : Type 0
Found = Result (Option Position) Refusal

abbrev pub found : ℕ → Found
found n = Ok (Some (record { 0 = n }))

abbrev pub absent : Found
absent = Ok None

-- search by halving, on any numbers: at most k turns
unfoldable pub turn : Ordering → Found → Found → Found → Found
turn Less a b c = a
turn Equal a b c = b
turn Greater a b c = c

abbrev pub mid : ℕ → ℕ → ℕ
mid lo hi = (lo + hi) / 2

unfoldable pub turns : (ℕ → ℕ) → ℕ → ℕ → ℕ → ℕ → Found
turns key x zero lo hi = absent
turns key x (suc k) lo hi =
    absent if leb hi lo else
    turn (nat_cmp x (key (mid lo hi)))
    (turns key x k lo (mid lo hi))
    (found (mid lo hi))
    (turns key x k (mid lo hi + 1) hi)

-- x among key lo .. key (hi - 1): look in the middle; go below it, stop, or go above it; hi - lo turns are enough
unfoldable pub halving : (ℕ → ℕ) → ℕ → ℕ → ℕ → Found
halving key x lo hi = turns key x (hi - lo) lo hi

-- OIDL: id i of the bytes p, as a number
unfoldable pub key_of : ℕ → List ℕ → ℕ → ℕ
key_of w p i = be w p (i * w)

-- OIDF: fan entry b of the bytes p, and the one before it
abbrev pub upper : List ℕ → ℕ → ℕ
upper p b = be 4 p (4 * b)

unfoldable pub lower : List ℕ → ℕ → ℕ
lower p zero = 0
lower p (suc b) = upper p b

abbrev pub not_found : Reason → Found
not_found e = Err (refusal e 0)

-- the record fits, then the id's width, then the fan's bounds lie among the ids
unfoldable pub lookup_of : List ℕ → File → List ℕ → Found
lookup_of l f x =
    refuse (fit_rule l f) not_found
    (refuse (Err Reason.IdWidth if not (eqb (length x) f.width) else fine) not_found
    (refuse (Err Reason.Position if ltb f.commits (upper (fan_part l f) (get_or x 0 0)) else fine) not_found
    (halving (key_of f.width (ids_part l f)) (number x) (lower (fan_part l f) (get_or x 0 0)) (upper (fan_part l f) (get_or x 0 0)))))

-- ── what a lookup is for ──

-- the bytes of id i, and its first byte
unfoldable pub stored : List ℕ → File → ℕ → List ℕ
stored l f i = take f.width (drop (i * f.width) (ids_part l f))

unfoldable pub leading : List ℕ → File → ℕ → ℕ
leading l f i = get_or (ids_part l f) (i * f.width) 0

-- what verification leaves of 65 and 66: each id is above the one before, and lies in the fan bucket of its first byte
pub record Ordered (l : List ℕ) (f : File) : Type 0 where
  pub rises : (i : ℕ) → i + 1 < f.commits → key_of f.width (ids_part l f) i < key_of f.width (ids_part l f) (i + 1)
  pub low : (i : ℕ) → i < f.commits → lower (fan_part l f) (leading l f i) ≤ i
  pub high : (i : ℕ) → i < f.commits → i < upper (fan_part l f) (leading l f i)

-- r says where an id is, or that it is not there: it is no refusal
abbrev pub Answers : Found → Type 0
Answers r = ((i : ℕ) × (r ≡ found i)) ⊎ (r ≡ absent)

-- r is what a lookup of x should answer: it finds x exactly if the file stores it, at the position that stores it
pub record Finds (l : List ℕ) (f : File) (x : List ℕ) (r : Found) : Type 0 where
  pub sound : (i : ℕ) → r ≡ found i → (i < f.commits) × (stored l f i ≡ x)
  pub whole : (i : ℕ) → i < f.commits → stored l f i ≡ x → r ≡ found i
  pub absent : r ≡ Ok None → (i : ℕ) → i < f.commits → stored l f i ≡ x → ⊥
  pub none : ((i : ℕ) → i < f.commits → stored l f i ≡ x → ⊥) → r ≡ Ok None

-- of a file that opens and whose ids are in order, asked for an id of its width
unfoldable pub Right : List ℕ → File → List ℕ → Found → Type 0
Right l f x r = opening l ≡ Ok f → Ordered l f → length x ≡ f.width → Finds l f x r
