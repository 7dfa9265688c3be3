-- What a step does to a walk, and that the steps followed to the end are the parent list.
use Rattle.std.proofs.Common.{ℕ, ◌≤◌, ◌<◌, List, [], ◌∷◌, true, ◌≡◌, refl, sym, ap, subst, ◌∙◌, ⊎_elim, arith, Result, Ok, Err}
use Rattle.std.specs.Prelude.{Option, Some, None, ⊤}
use Rattle.words.specs.First.{◌if◌else◌, fine, refuse}
use Rattle.types.specs.Refusals.{number_of, refused_at}
use Rattle.types.specs.declared.refusal.Reason.{Reason}
use Rattle.types.specs.declared.refusal.Refusal.{Refusal}
use Rattle.fit.specs.Fits.{ask_rule, edge_chunk}
use Rattle.file.specs.declared.File.{File}
use Rattle.fit.proofs.Opens.{opened as file_opened}
use Rattle.fit.proofs.Fitting.{opened_fits, asked_plain}
use Rattle.commit.specs.Commits.{row_of, commit_at}
use Rattle.steps.specs.Walks.{next_of, Walked, ends as over, parent, rest_of, positions, end_of}
use Rattle.parents.specs.Walks.{walk_of}
use Rattle.steps.specs.declared.Parent.{Parent}
use Rattle.steps.specs.declared.Next.{Next}
use Rattle.steps.specs.declared.Phase.{Phase}
use Rattle.steps.specs.declared.Phase.TheVariants.{First}
use Rattle.steps.proofs.Walking.{follow_met, rest_follow}
use Rattle.parents.proofs.Walking.{step_plain, Told, step_told}
use Rattle.graph.specs.Chain.{in_file, commits_of, part_at, open_at, count_at, file_of, pos_of, asked}
use Rattle.walk.specs.Lists.{walk_in, walked_at}
use Rattle.walk.specs.Walks.{refused, step_by, step_of}
use Rattle.walk.specs.Theorems.{Keeps, Follows, ends, stops, goes, Ends, rest_at, walk_at, Lists}
use Rattle.walk.specs.declared.Walk.{Walk}
use Rattle.walk.specs.declared.Step.{Step}
use Rattle.graph.proofs.Spots.{has_number}
use Rattle.graph.proofs.Standing.{stands, asked_below}
use Rattle.walk.proofs.Steps.{step_refused}

-- ── one step ──

answer_told : (k : ℕ) (a : Result (Option Parent) Refusal) (s : Phase) → Told a s → Told (in_file k a) s
unfolding Told in_file
answer_told k (Ok (Some p)) s h = h
answer_told k (Ok None) s h = h
answer_told k (Err r) s h = h

module _ (z : ℕ) (c l : List ℕ) where
  -- what holds of both ways through a step
  step_ways : (w : Walk) (P : Step → Type 0)
      → ((r : Refusal) → P (refused w r))
      → ((k i : ℕ) (f : File) → P (step_by k (part_at z c l k) (Ok f) i w))
      → P (step_of z c l w)
  unfolding step_of refuse step_by
  step_ways w P halts runs = go (asked z c l w.commit.0)
    where
      k : ℕ
      k = file_of z c l w.commit.0

      opens : (o : Result File Refusal) → P (step_by k (part_at z c l k) o (pos_of z c l w.commit.0) w)
      opens (Ok f) = runs k _ f
      opens (Err r) = halts r

      go : (m : Result ⊤ Refusal)
          → P (refuse m (refused w) (step_by k (part_at z c l k) (open_at z c l k) (pos_of z c l w.commit.0) w))
      go (Ok u) = opens (open_at z c l k)
      go (Err r) = halts r

  told : (w : Walk) → Told (step_of z c l w).answer (step_of z c l w).next.phase
  unfolding Told step_by
  told w =
      step_ways w (λ (x : Step). Told x.answer x.next.phase)
      (λ r. refl)
      (λ k i f. answer_told k _ _ (step_told (part_at z c l k) f i w.phase))

  pub keeps : (w : Walk) → Keeps z c l w
  unfolding Told step_by
  keeps w =
      record {
        commit = step_ways w (λ (x : Step). x.next.commit ≡ w.commit) (λ r. refl) (λ k i f. refl);
        ended = λ e. at (Ok None) e;
        refused = λ r e. at (Err r) e;
        named = λ r e. has_number r.reason;
      }
    where
      at : (a : Result (Option Parent) Refusal) → (step_of z c l w).answer ≡ a → Told a (step_of z c l w).next.phase
      at a e = subst (λ (y : Result (Option Parent) Refusal). Told y (step_of z c l w).next.phase) e (told w)

  -- ── the steps followed ──

  -- two followings of one walk are the same
  pub follows_same : {w : Walk} {ps qs : List ℕ} {e d : Result ⊤ Reason} → Follows z c l w ps e → Follows z c l w qs d
      → (ps ≡ qs) × (e ≡ d)
  follows_same (ends a) (ends b) = (refl, refl)
  follows_same (ends a) (stops b) = (cc, cc)
  follows_same (ends a) (goes b y) = (cc, cc)
  follows_same (stops a) (ends b) = (cc, cc)
  follows_same (stops a) (stops b) = (refl, cc)
  follows_same (stops a) (goes b y) = (cc, cc)
  follows_same (goes a x) (ends b) = (cc, cc)
  follows_same (goes a x) (stops b) = (cc, cc)
  follows_same (goes a x) (goes b y) = let h = follows_same x y in (cc, h.1)

  module _ (g : ℕ) (a : asked z c l g ≡ fine) (f : File) (o : open_at z c l (file_of z c l g) ≡ Ok f) where
    -- the file's index, its bytes, and the commit's position there
    abbrev k : ℕ
    k = file_of z c l g

    abbrev p : List ℕ
    p = part_at z c l k

    abbrev i : ℕ
    i = pos_of z c l g

    below : i < f.commits
    unfolding count_at commits_of
    below = rw o at ((stands z c l).pos g (asked_below z c l g a))

    plain : ask_rule p f f.commits i ≡ fine
    unfolding open_at
    plain = asked_plain _ f f.commits i (opened_fits (file_opened true _ o)) below

    there : commit_at p f i ≡ Ok (row_of p f i)
    unfolding commit_at refuse
    there = rw plain

    next : Phase → Next
    next s = next_of (row_of p f i).first (row_of p f i).second (edge_chunk p f) s

    left : Phase → Walked
    left s = rest_at p f i s

    step_is : (s : Phase)
        → step_of z c l (walk_at g s) ≡ (record { answer = in_file k (refused_at (next s).met i); next = walk_at g (next s).phase })
    unfolding step_of refuse step_by next
    step_is s = rw (a, o, ← step_plain _ f i there s)

    answer_is : (s : Phase) {m : Result (Option Parent) Reason} → (next s).met ≡ m
        → (step_of z c l (walk_at g s)).answer ≡ in_file k (refused_at m i)
    answer_is s e =
        ap (λ (x : Step). x.answer) (step_is s) ∙ ap (λ (y : Result (Option Parent) Reason). in_file k (refused_at y i)) e

    -- a step that meets no parent, and one that meets one
    last : (r : Result ⊤ Reason) (s : Phase) (m : Result (Option Parent) Reason) → (next s).met ≡ m
        → over r ≡ follow_met m (left (next s).phase) → Follows z c l (walk_at g s) [] r
    unfolding follow_met in_file
    last r s (Ok (Some q)) e d = absurd (cc)
    last r s (Ok None) e d = let y : r ≡ fine = cc in rw y (ends (answer_is s e))
    last r s (Err n) e d = let y : r ≡ Err n = cc in rw y (stops (answer_is s e))

    more : (q : ℕ) (w : Walked) (s : Phase) (m : Result (Option Parent) Reason) → (next s).met ≡ m
        → parent q w ≡ follow_met m (left (next s).phase)
        → ((t : Phase) → left t ≡ w → Follows z c l (walk_at g t) (positions w) (end_of w))
        → Follows z c l (walk_at g s) (q ∷ positions w) (end_of w)
    unfolding follow_met in_file
    more q w s (Ok (Some r)) e d rest =
        let y : q ≡ r.position.0 = cc in
        let v : left (next s).phase ≡ w = cc in
        rw y (goes (answer_is s e)
        (subst (λ (x : Step). Follows z c l x.next (positions w) (end_of w)) (sym (step_is s)) (rest (next s).phase v)))
    more q w s (Ok None) e d rest = absurd (cc)
    more q w s (Err n) e d rest = absurd (cc)

    left_follow : (s : Phase) → left s ≡ follow_met (next s).met (left (next s).phase)
    unfolding next left
    left_follow s = rest_follow _ _ _ s

    along : (w : Walked) (s : Phase) → left s ≡ w → Follows z c l (walk_at g s) (positions w) (end_of w)
    unfolding positions end_of
    along (over r) s e = last r s (next s).met refl (sym e ∙ left_follow s)
    along (parent q w) s e = more q w s (next s).met refl (sym e ∙ left_follow s) (along w)

    pub lists : Lists z c l g f
    unfolding left walk_of rest_of walked_at walk_in
    lists = record { rest = λ s. along (left s) s refl; whole = rw o (along (left First) First refl) }

  pub ends_once : (w : Walk) → Ends z c l w
  ends_once w = go (asked z c l w.commit.0) refl
    where
      once : {ps : List ℕ} {e : Result ⊤ Reason} → Follows z c l w ps e → Ends z c l w
      once y = record { parents = _; last = _; follows = y; only = λ ps e x. follows_same x y }

      go : (m : Result ⊤ Refusal) → asked z c l w.commit.0 ≡ m → Ends z c l w
      go (Ok u) a =
          let o = (stands z c l).opens w.commit.0 (asked_below z c l w.commit.0 a) in
          once ((lists w.commit.0 a o.0 o.1).rest w.phase)
      go (Err q) a = once (stops (ap (λ (x : Step). x.answer) (sym (step_refused z c l w a))))
