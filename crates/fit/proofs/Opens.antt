-- What an opened file gives to whoever reads it.
use Rattle.std.proofs.Common.{ℕ, ◌+◌, ◌-◌, ◌*◌, ◌/◌, ◌%◌, ◌<◌, ◌≤◌, List, Bool, true, false, ◌&&◌, ◌≡◌, refl, ap, arith, div-add-mod', zero-mul}
use Rattle.std.proofs.Common.{ltb-false, ltb, length, take, drop, is_none, Result, Ok, Err}
use Rattle.std.proofs.lemmas.Grind.{common_steps}
use Rattle.std.specs.Prelude.{Option, Some, None, ⊤}
use Rattle.types.specs.declared.refusal.Reason.{Reason}
use Rattle.types.specs.declared.refusal.Refusal.{Refusal}
use Rattle.words.specs.Big.{be}
use Rattle.words.specs.First.{◌if◌else◌, first, fine, refuse}
use Rattle.words.proofs.Searches.{first_none}
use Rattle.words.proofs.Rows.{refuse_other}
use Rattle.chunk.specs.Index.{chunks, off_at, start_of, size_of, index_rule, Indexed}
use Rattle.chunk.specs.declared.Span.{Span}
use Rattle.chunk.proofs.Sound.{indexed, lies}
use Rattle.file.specs.Table.{bases, width, header, index_of, part_of, base_rules, chunk_rules, count_rules, falls, peak, peak_by, last, file_of}
use Rattle.file.specs.Table.{not_open, fanned, chunked, opening_by, opening}
use Rattle.fit.specs.Facts.{Opened, Rises}
use Rattle.types.proofs.Widths.{width_bounds}
use Rattle.file.specs.declared.File.{File}
use Rattle.file.specs.declared.rules.Index.{Index}
use Rattle.file.proofs.Stages.{Headed, headed, width_known}

-- a stage before an opened file refused nothing
pub opens : (m : Result ⊤ Reason) (p : ℕ) (rest : Result File Refusal) {f : File} → refuse m (not_open p) rest ≡ Ok f
    → (m ≡ fine) × (rest ≡ Ok f)
unfolding not_open
opens m p rest e = refuse_other m (not_open p) rest (λ r q. cc) e

-- records that fill a chunk
whole : (n w k : ℕ) → n % w ≡ 0 → n / w ≡ k → k * w ≡ n
whole n w k p q = let h : n / w * w + n % w ≡ n = div-add-mod' n w in rw (← q) (omega arith)

-- what 12 to 19 leave
record Sized (w b : ℕ) (x : Index) : Type 0 where
  cdat : size_of x.cdat % (w + 16) ≡ 0
  oidf : size_of x.oidf ≡ 1024
  oidl : size_of x.oidl % w ≡ 0
  base : ((is_none x.base) && (ltb 0 b)) ≡ false

sized : (w b rest : ℕ) (x : Index) → chunk_rules w b rest x ≡ fine → Sized w b x
unfolding chunk_rules ◌if◌else◌
sized w b rest x e =
    record {
      cdat = grind (arith, common_steps);
      oidf = grind (arith, common_steps);
      oidl = grind (arith, common_steps);
      base = grind (arith, common_steps);
    }

-- B ids fill the BASE chunk, or B is 0
based : (w b : ℕ) (c : Option Span) → base_rules w b c ≡ fine → ((is_none c) && (ltb 0 b)) ≡ false → b * w ≡ size_of c
unfolding base_rules ◌if◌else◌
based w b None e g = let z : b ≡ 0 = grind (arith, common_steps) in rw (z, zero-mul)
based w b (Some p) e g = whole (size_of (Some p)) w b (grind (arith, common_steps)) (grind (arith, common_steps))

counted : (w n : ℕ) (x : Index) → count_rules w n x ≡ fine → (size_of x.oidl / w ≡ n) × (size_of x.cdat / (w + 16) ≡ n)
unfolding count_rules ◌if◌else◌
counted w n x e = (grind (arith, common_steps), grind (arith, common_steps))

-- the fan's bytes do not fall, where 20 is tried
risen : (p : List ℕ) → (Err Reason.FanFalls if ltb (peak_by true p) 255 else fine) ≡ fine → (i : ℕ) → i < 255 → be 4 p (4 * i) ≤ be 4 p (4 * (i + 1))
unfolding peak_by ◌if◌else◌ peak falls
risen p e i h =
    let none : 255 ≤ first (falls p) 0 255 = grind (arith, common_steps) in
    ltb-false _ _ (first_none (falls p) 0 255 (omega arith) i (omega arith) (omega arith))

-- each stage of an opened file refused nothing, and the file is what they say
record Passed (t : Bool) (l : List ℕ) (f : File) : Type 0 where
  head : header l ≡ fine
  index : index_rule l ≡ fine
  base : base_rules (width l) (bases l) (index_of l).base ≡ fine
  chunk : chunk_rules (width l) (bases l) (length l - off_at l (chunks l)) (index_of l) ≡ fine
  fan : (Err Reason.FanFalls if ltb (peak_by t (part_of l (index_of l).oidf)) 255 else fine) ≡ fine
  count : count_rules (width l) (last (part_of l (index_of l).oidf)) (index_of l) ≡ fine
  is : file_of (width l) (bases l) (index_of l) (last (part_of l (index_of l).oidf)) ≡ f

passed : (t : Bool) (l : List ℕ) {f : File} → opening_by t l ≡ Ok f → Passed t l f
unfolding opening_by chunked fanned
passed t l o =
    let o1 = opens _ _ _ o in
    let o2 = opens _ _ _ o1.1 in
    let o3 = opens _ _ _ o2.1 in
    let o4 = opens _ _ _ o3.1 in
    let o5 = opens _ _ _ o4.1 in
    let o6 = opens _ _ _ o5.1 in
    record { head = o1.0; index = o2.0; base = o3.0; chunk = o4.0; fan = o5.0; count = o6.0; is = cc }

pub opened : (t : Bool) (l : List ℕ) {f : File} → opening_by t l ≡ Ok f → Opened l f
unfolding file_of index_of
opened t l {f} o =
    let k : Passed t l f = passed t l o in
    let w : ℕ = width l in
    let x : Index = index_of l in
    let n : ℕ = last (part_of l x.oidf) in
    let i : Indexed l = indexed l k.index in
    let h : Headed l = headed l k.head in
    let s : Sized w (bases l) x = sized w (bases l) _ x k.chunk in
    let c = counted w n x k.count in
    rw (← k.is) (record {
      most = h.most;
      least = h.least;
      fitted = record {
        wide = omega (arith, width_bounds w (width_known l));
        narrow = omega (arith, width_bounds w (width_known l));
        fan = omega (arith, s.oidf, (lies 0x4f494446 i).inside);
        ids = omega (arith, whole _ w n s.oidl c.0, (lies 0x4f49444c i).inside);
        rows = omega (arith, whole _ (w + 16) n s.cdat c.1, (lies 0x43444154 i).inside);
        edge = (lies 0x45444745 i).inside;
        base = omega (arith, based w (bases l) x.base k.base s.base, (lies 0x42415345 i).inside);
      };
      known = width_known l;
      bases = refl;
      count = ap (λ (j : ℕ). be 4 (take j (drop (start_of x.oidf) l)) 1020) s.oidf;
    })

pub rising : (l : List ℕ) {f : File} → opening l ≡ Ok f → Rises l f
unfolding file_of
rising l {f} o =
    let k : Passed true l f = passed true l o in
    let s : Sized (width l) (bases l) (index_of l) = sized (width l) (bases l) _ (index_of l) k.chunk in
    rw (← k.is) (record { rises = rw s.oidf at (risen _ k.fan) })
