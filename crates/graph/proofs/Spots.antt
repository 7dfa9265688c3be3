-- Where a position stands: the ways through the question, what its answer comes to, and the file that is cut by it.
use Rattle.std.proofs.Common.{ℕ, ◌≤◌, ◌<◌, List, ◌≡◌, refl, sym, ap, subst, ◌∙◌, ⊎_elim, arith, leb, Bor, le-leb, Result, Ok, Err}
use borrow.Author.Tests.{lt-leb}
use Rattle.std.specs.Prelude.{Some, None, ⊤}
use Rattle.words.specs.First.{◌if◌else◌, fine}
use Rattle.words.proofs.Rows.{hit, refuse_some, refuse_none, refuse_other}
use Rattle.types.specs.Refusals.{refusal, number_of}
use Rattle.types.specs.declared.refusal.Reason.{Reason}
use Rattle.types.proofs.Saying.{reason_of, reason_back}
use Rattle.words.proofs.Numbers.{le_or_lt}
use Rattle.types.specs.declared.refusal.Reason.TheVariants as Reason
use Rattle.types.specs.declared.refusal.Refusal.{Refusal}
use Rattle.words.specs.Part.{RecordsOf}
use Rattle.words.proofs.Adds.{before_lt}
use Rattle.words.proofs.Parts.{run_in}
use Rattle.list.specs.List.{records_of, length_at}
use Rattle.file.specs.declared.File.{File}
use Rattle.graph.specs.Chain.{start_at, part_at, count_at, commits_in, file_of, pos_of, opened, asked}
use Rattle.graph.specs.Passes.{Holds, Seen}
use Rattle.graph.specs.Spots.{spot_in, located}
use Rattle.graph.specs.Theorems.{Spotted, FileOf}
use Rattle.graph.specs.declared.locate.Spot.{Spot}
use Rattle.graph.specs.declared.survey.Survey.{Survey}
use Rattle.graph.proofs.Passing.{file_room}
use Rattle.graph.proofs.Standing.{stands, asked_opened, asked_below}
use Rattle.graph.proofs.Views.{or_some, or_next, opened_listed}

-- a reason has a number
pub has_number : (e : Reason) → 0 < number_of e
unfolding reason_of ◌if◌else◌
has_number e =
    ⊎_elim
    (λ (h : number_of e ≤ 0).
    let none : number_of e ≡ 0 = omega arith in
    let last : Reason.Generation ≡ e = sym (ap reason_of none) ∙ reason_back e in
    absurd (omega (arith, ap number_of last)))
    (λ (h : 0 < number_of e). h)
    (le_or_lt (number_of e) 0)

module _ (z : ℕ) (c l : List ℕ) (g : ℕ) where
  -- ── the ways through it ──

  locate_none : {q : Refusal} → asked z c l g ≡ Err q → Err q ≡ located z c l g
  unfolding located
  locate_none h = refuse_some Err _ h

  pub locate_refused : {q : Refusal} → opened z c l ≡ Err q → Err q ≡ located z c l g
  unfolding asked
  locate_refused h = locate_none (or_some _ h)

  -- s is what a look at the chain gave
  module _ {s : Survey} (v : Seen z c l g s) where
    next : asked z c l g ≡ (Err (refusal Reason.Position 0) if leb (commits_in z c l) g else fine)
    unfolding asked
    next = or_next _ v.opens

    pub locate_out : s.spot ≡ None → Err (refusal Reason.Position 0) ≡ located z c l g
    locate_out e =
        let b : commits_in z c l ≤ g = v.kept.outside e in
        locate_none (next ∙ sym (hit _ _ _ (le-leb (commits_in z c l) g b)))

    pub locate_found : {r : Spot} → s.spot ≡ Some r → Ok r ≡ located z c l g
    unfolding located spot_in ◌if◌else◌
    locate_found {r} e =
        let k : Holds z c l g (records_of z l) r = v.kept.holds r e in
        let b : g < commits_in z c l = omega (arith, k.sum, k.high, before_lt (count_at z c l) r.file (records_of z l) k.below) in
        let a : asked z c l g ≡ fine = next ∙ rw (lt-leb (commits_in z c l) g b) in
        let file : file_of z c l g ≡ r.file = rw (← k.sum) ((stands z c l).file_back r.file r.pos.0 k.below k.high) in
        let pos : pos_of z c l g ≡ r.pos.0 = rw (← k.sum) ((stands z c l).pos_back r.file r.pos.0 k.below k.high) in
        sym (refuse_none Err _ a ∙ rw (file, pos, k.inner, ← k.start, ← k.size))

  -- ── what its answer comes to ──

  spot_of : ℕ → ℕ → File → Spot
  spot_of k i f = record { file = k; start = start_at z c l k; size = length_at z l k; pos = record { 0 = i }; inner = f }

  -- a question that is not refused has its spot
  fine_spot : asked z c l g ≡ fine → (r : Spot) × (located z c l g ≡ Ok r) × Spotted z c l g r
  unfolding located spot_in spot_of
  fine_spot a =
      let b : g < commits_in z c l = asked_below z c l g a in
      let (f, o, h) = (stands z c l).opens g b in (
        spot_of (file_of z c l g) (pos_of z c l g) f,
        refuse_none Err _ a ∙ rw o,
        record {
          asks = a;
          file = refl;
          pos = refl;
          sum = (stands z c l).sum g b;
          below = (stands z c l).file g b;
          start = refl;
          size = refl;
          room = file_room z c l (opened_listed z c l (asked_opened z c l g a)) (file_of z c l g) ((stands z c l).file g b);
          opens = o;
          high = h;
        },
      )

  -- an answered spot is the position's, and a refusal is the question's
  pub spotted : {r : Spot} → located z c l g ≡ Ok r → Spotted z c l g r
  unfolding located
  spotted {r} e =
      let (s, d, k) = fine_spot (refuse_other (asked z c l g) Err _ (λ q w. cc) e).0 in
      let y : s ≡ r = cc in
      subst (Spotted z c l g) y k

  pub unspotted_as : {q : Refusal} → located z c l g ≡ Err q → asked z c l g ≡ Err q
  unspotted_as {q} e = go (asked z c l g) refl
    where
      go : (a : Result ⊤ Refusal) → asked z c l g ≡ a → asked z c l g ≡ Err q
      go (Ok u) h = let (s, d, k) = fine_spot h in absurd (cc)
      go (Err r) h = let d = locate_none h in cc

  pub unspotted : {q : Refusal} → located z c l g ≡ Err q → (asked z c l g ≡ Err q) × (0 < number_of q.reason)
  unspotted {q} e = (unspotted_as e, has_number q.reason)

-- what is cut from the chain by a spot is its file
pub file_cut : {z : ℕ} (c : Bor (List ℕ)) {l : List ℕ} {g : ℕ} {r : Spot} → Spotted z c.now l g r → {s : Bor (List ℕ)}
    → RecordsOf c r.start r.size 1 s → FileOf z c l r s
unfolding part_at
file_cut c {r} h {s} p =
    let q = run_in c s r.start r.size h.room p in
    record { bytes = q.bytes ∙ rw (← h.start, ← h.size); place = q }

-- how a position is located
pub ruleset locating = (locate_refused, locate_out, locate_found)
