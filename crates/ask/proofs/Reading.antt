-- The questions by position: each answers what the position's file does, where a question on it meets no refusal; and the id that is handed out.
use Rattle.std.proofs.Common.{ℕ, ◌+◌, ◌*◌, ◌≤◌, List, ◌≡◌, sym, ap, ◌∙◌, arith, length, take, drop, length-take, drop-drop, Bor, true, Result, Ok}
use Rattle.std.proofs.Common.{Err}
use Rattle.std.specs.Prelude.{⊤}
use Rattle.types.specs.declared.refusal.Refusal.{Refusal}
use Rattle.words.specs.First.{◌if◌else◌, fine, refuse}
use Rattle.words.proofs.Rows.{refuse_some}
use Rattle.words.specs.Part.{PartOf, RecordsOf}
use Rattle.words.proofs.Parts.{take_in, part_part, part_length}
use Rattle.list.specs.List.{length_at}
use Rattle.fit.specs.Fits.{ask_rule, AskedPart}
use Rattle.fit.specs.Facts.{Opened}
use Rattle.file.specs.declared.File.{File}
use Rattle.fit.proofs.Opens.{opened}
use Rattle.fit.proofs.Fitting.{opened_fits, asked_plain, run_within}
use Rattle.access.specs.Lookup.{stored}
use Rattle.commit.specs.Commits.{commit_at}
use Rattle.commit.specs.declared.Commit.{Commit}
use Rattle.graph.specs.Chain.{width_in, start_at, part_at, open_at, file_of, pos_of, asked}
use Rattle.graph.specs.Spots.{located}
use Rattle.ask.specs.Questions.{id_in, tree_in, IdPart, TreePart, commit_in, commit_of}
use Rattle.ask.specs.Theorems.{stored_in, id_of, ReadsId}
use Rattle.graph.specs.Theorems.{Spotted, FileOf}
use Rattle.graph.specs.declared.locate.Spot.{Spot}
use Rattle.graph.proofs.Standing.{stands, asked_below}
use Rattle.graph.proofs.Spots.{spotted, unspotted_as, file_cut}

-- a part of a part, where the inner question met no refusal
inner_part : {E : Type 0} {s p x : Bor (List ℕ)} {at n : ℕ} {m : Result ⊤ E} (j w : ℕ) → PartOf s at n p → m ≡ fine → j + w ≤ n → AskedPart p m j w x
    → PartOf s (at + j) w x
unfolding ◌if◌else◌
inner_part {p} {x} j w q e h k =
    let y : PartOf p j w x = rw e at k in
    part_part q y h

-- a position that stands somewhere is not refused
pub which_fine : (z : ℕ) (c l : List ℕ) (g : ℕ) {r : Spot} → located z c l g ≡ Ok r → asked z c l g ≡ fine
which_fine z c l g e = (spotted z c l g e).asks

module _ (z : ℕ) (c : Bor (List ℕ)) (l : List ℕ) (g : ℕ) where
  -- the position is refused, with q
  module _ {q : Refusal} (e : located z c.now l g ≡ Err q) where
    met : asked z c.now l g ≡ Err q
    met = unspotted_as z c.now l g e

    pub id_none : {x : Bor (List ℕ)} → PartOf c 0 0 x → IdPart z c l g x
    unfolding ◌if◌else◌
    id_none p = rw met p

    pub tree_none : {x : Bor (List ℕ)} → PartOf c 0 0 x → TreePart z c l g x
    unfolding ◌if◌else◌
    tree_none p = rw met p

    pub commit_none : Err q ≡ commit_of z c.now l g
    unfolding commit_of
    commit_none = refuse_some Err _ met

  -- it stands at r
  module _ {r : Spot} (e : located z c.now l g ≡ Ok r) where
    spot : Spotted z c.now l g r
    spot = spotted z c.now l g e

    -- s is what was cut by it
    module _ {s : Bor (List ℕ)} (k : RecordsOf c r.start r.size 1 s) where
      cut : FileOf z c l r s
      cut = file_cut c spot k

      whole : Opened s.now r.inner
      unfolding open_at
      whole = rw cut.bytes (opened true _ spot.opens)

      long : length s.now ≡ r.size
      long = part_length cut.place spot.room

      -- a question on the file's commit meets no refusal
      plain : ask_rule s.now r.inner r.inner.commits r.pos.0 ≡ fine
      plain = asked_plain s.now r.inner r.inner.commits r.pos.0 (opened_fits whole) spot.high

      pub id_part_lem : {x : Bor (List ℕ)}
          → AskedPart s (ask_rule s.now r.inner r.inner.commits r.pos.0) (r.inner.oidl + r.pos.0 * r.inner.width)
          r.inner.width x
          → IdPart z c l g x
      unfolding id_in width_in ◌if◌else◌
      id_part_lem p =
          let room : r.inner.oidl + r.pos.0 * r.inner.width + r.inner.width ≤ r.size =
          omega (arith, whole.fitted.ids, run_within r.pos.0 r.inner.commits r.inner.width spot.high, long) in
          rw (spot.asks, spot.file, spot.pos, spot.opens, spot.start) (inner_part _ _ cut.place plain room p)

      pub tree_part_lem : {x : Bor (List ℕ)}
          → AskedPart s (ask_rule s.now r.inner r.inner.commits r.pos.0) (r.inner.cdat + r.pos.0 * (r.inner.width + 16))
          r.inner.width x
          → TreePart z c l g x
      unfolding tree_in width_in ◌if◌else◌
      tree_part_lem p =
          let room : r.inner.cdat + r.pos.0 * (r.inner.width + 16) + r.inner.width ≤ r.size =
          omega (arith, whole.fitted.rows, run_within r.pos.0 r.inner.commits (r.inner.width + 16) spot.high, long) in
          rw (spot.asks, spot.file, spot.pos, spot.opens, spot.start) (inner_part _ _ cut.place plain room p)

      pub commit_part : {a : Result Commit Refusal} → a ≡ commit_at s.now r.inner r.pos.0 → a ≡ commit_of z c.now l g
      unfolding commit_of refuse commit_in
      commit_part p = p ∙ rw (spot.asks, spot.file, spot.pos, spot.opens, cut.bytes)

-- how a question by position goes
pub ruleset asking = (unspotted_as, which_fine, commit_none, commit_part)

-- a part of a part of a part: place j of the n bytes at `at` of a file, which has m bytes at a place of the chain
inner : (c : List ℕ) (start m at n j w : ℕ) → j + w ≤ n → at + j + w ≤ m
    → take w (drop j (take n (drop at (take m (drop start c))))) ≡ take w (drop (start + (at + j)) c)
inner c start m at n j w h g =
    take_in j w n (drop at (take m (drop start c))) h
    ∙ ap (take w) (drop-drop j at (take m (drop start c)))
    ∙ take_in (at + j) w m (drop start c) g
    ∙ ap (take w) (drop-drop (at + j) start c)

pub reads_id : (z : ℕ) (c : Bor (List ℕ)) (l : List ℕ) (g : ℕ) (r : Bor (List ℕ)) → ReadsId z c l g r
unfolding id_of stored_in stored id_in width_in part_at open_at ◌if◌else◌
reads_id z c l g r a p =
    let k : ℕ = file_of z c.now l g in
    let i : ℕ = pos_of z c.now l g in
    let o = (stands z c.now l).opens g (asked_below z c.now l g a) in
    let f : File = o.0 in
    let q : PartOf c (start_at z c.now l k + (f.oidl + i * f.width)) f.width r = rw (o.1, a) at p in
    let y = (opened true (part_at z c.now l k) o.1).fitted.ids in
    let v : length (part_at z c.now l k) ≤ length_at z l k = simp length-take (omega arith) in
    rw o.1 (q.bytes
    ∙ sym (inner c.now (start_at z c.now l k) (length_at z l k) f.oidl (f.commits * f.width) (i * f.width) f.width
    (run_within i f.commits f.width o.2) (omega (arith, run_within i f.commits f.width o.2))))
