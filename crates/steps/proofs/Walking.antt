-- The walk over a commit's parents: the ways through a step, that the steps followed to the end are the walk, and that they end.
use Rattle.std.proofs.Common.{ℕ, zero, suc, ◌+◌, ◌-◌, ◌*◌, ◌≤◌, ◌<◌, List, true, ◌≡◌, refl, sym, ap, subst, ◌∙◌, arith, length, le-leb, ltb-false}
use Rattle.std.proofs.Common.{Result, Ok, Err, is_err}
use Rattle.std.specs.Prelude.{Option, Some, None, ⊤}
use Rattle.types.specs.declared.refusal.Reason.{Reason}
use Rattle.words.specs.Big.{be}
use Rattle.words.specs.First.{◌if◌else◌, fine, refuse}
use Rattle.words.proofs.Rows.{pass}
use Rattle.steps.specs.Walks.{extra_of, stop, edge_rule, edge_bytes, extra_next, edge_next, second_next, alone_next, first_next, next_of}
use Rattle.steps.specs.Walks.{Walked, ends, stops, parent, extra_walk, edge_from, words_in, edge_walk, second_walk, alone_walk, first_walk, rest_of}
use Rattle.steps.specs.Walks.{positions, end_of, counted, count_from, count_of}
use Rattle.commit.specs.declared.ParentEdge.{ParentEdge}
use Rattle.commit.specs.declared.ParentEdge.TheVariants.{None as Nothing, GraphPosition, ExtraEdgeIndex}
use Rattle.steps.specs.declared.ExtraEdge.{ExtraEdge}
use Rattle.steps.specs.declared.ExtraEdge.TheVariants.{Internal, Last}
use Rattle.steps.specs.declared.Phase.{Phase}
use Rattle.steps.specs.declared.Phase.TheVariants.{First, Second, Edge, Exhausted}
use Rattle.steps.specs.declared.Parent.{Parent}
use Rattle.steps.specs.declared.Next.{Next}

-- an EDGE number that the rule passes has its four bytes
pub edge_there : (e : Option (List ℕ)) (k : ℕ) → edge_rule e k ≡ fine → 4 * k + 4 ≤ length (edge_bytes e)
unfolding edge_rule
edge_there None k z = cc
edge_there (Some e) k z =
    let p1 = pass _ _ _ z in
    let p2 = pass _ _ _ p1.1 in
    ltb-false (length e) (4 * k + 4) p2.0

-- what a step meets is followed by what is left at the phase after it
unfoldable pub follow_met : Result (Option Parent) Reason → Walked → Walked
follow_met (Ok (Some q)) rest = parent q.position.0 rest
follow_met (Ok None) rest = ends fine
follow_met (Err r) rest = stops r

abbrev pub follow : Next → (Phase → Walked) → Walked
follow x rest = follow_met x.met (rest x.phase)

module _ (a b : ParentEdge) (e : Option (List ℕ)) where
  extra_follow : (x : ExtraEdge) (k : ℕ) → extra_walk x (edge_walk e (k + 1)) ≡ follow (extra_next x k) (rest_of a b e)
  unfolding extra_walk follow_met rest_of
  extra_follow (Last p) k = refl
  extra_follow (Internal p) k = refl

  refuse_follow : (m : Result ⊤ Reason) (x : ExtraEdge) (k : ℕ)
      → refuse m stops (extra_walk x (edge_walk e (k + 1))) ≡ follow (refuse m stop (extra_next x k)) (rest_of a b e)
  unfolding refuse follow_met
  refuse_follow (Ok u) x k = extra_follow x k
  refuse_follow (Err r) x k = refl

  -- past the last word the rule refuses
  past_rule : (d : Option (List ℕ)) (k : ℕ) → words_in (edge_bytes d) ≤ k → is_err (edge_rule d k) ≡ true
  unfolding edge_rule ◌if◌else◌
  past_rule None k h = refl
  past_rule (Some l) k h = rw (le-leb (length l) (4 * k) (omega arith))

  past_follow : (m : Result ⊤ Reason) (rest : Next) → is_err m ≡ true → ends m ≡ follow (refuse m stop rest) (rest_of a b e)
  unfolding refuse follow_met
  past_follow (Ok u) rest h = cc
  past_follow (Err r) rest h = refl

  edge_follow : (k : ℕ) → edge_walk e k ≡ follow (edge_next e k) (rest_of a b e)
  unfolding edge_walk edge_from edge_next
  edge_follow k = go (words_in (edge_bytes e) - k) refl
    where
      go : (left : ℕ) → words_in (edge_bytes e) - k ≡ left → edge_from e left k
          ≡ follow (refuse (edge_rule e k) stop (extra_next (extra_of (be 4 (edge_bytes e) (4 * k))) k)) (rest_of a b e)
      go zero q = past_follow (edge_rule e k) _ (past_rule e k (omega arith))
      go (suc left) q =
          let d : words_in (edge_bytes e) - (k + 1) ≡ left = omega arith in
          rw (← d) (refuse_follow (edge_rule e k) _ k)

  second_follow : (x : ParentEdge) → second_walk e x ≡ follow (second_next e x) (rest_of a b e)
  unfolding second_walk second_next follow_met rest_of
  second_follow Nothing = refl
  second_follow (GraphPosition p) = refl
  second_follow (ExtraEdgeIndex k) = edge_follow k

  alone_follow : (x : ParentEdge) → alone_walk x ≡ follow (alone_next x) (rest_of a b e)
  unfolding alone_walk alone_next follow_met
  alone_follow Nothing = refl
  alone_follow (GraphPosition p) = refl
  alone_follow (ExtraEdgeIndex k) = refl

  first_follow : (x : ParentEdge) → first_walk x b e ≡ follow (first_next x b) (rest_of a b e)
  unfolding first_walk first_next follow_met rest_of
  first_follow Nothing = alone_follow b
  first_follow (GraphPosition p) = refl
  first_follow (ExtraEdgeIndex k) = refl

  -- a step binds every phase: what is left is what the step meets, and what is left after it
  pub rest_follow : (s : Phase) → rest_of a b e s ≡ follow (next_of a b e s) (rest_of a b e)
  unfolding rest_of next_of follow_met
  rest_follow First = first_follow a
  rest_follow Second = second_follow b
  rest_follow (Edge k) = edge_follow k
  rest_follow Exhausted = refl

-- how many steps may be left at a phase
unfoldable pub most_from : Option (List ℕ) → Phase → ℕ
most_from e First = words_in (edge_bytes e) + 3
most_from e Second = words_in (edge_bytes e) + 2
most_from e (Edge k) = words_in (edge_bytes e) - k + 1
most_from e Exhausted = 0

-- what a step says of itself: a parent is met with fewer steps left than n, a refusal and the end leave the walk exhausted
unfoldable pub Fair : Option (List ℕ) → ℕ → Result (Option Parent) Reason → Phase → Type 0
Fair e n (Ok (Some q)) s = most_from e s < n
Fair e n (Ok None) s = s ≡ Exhausted
Fair e n (Err r) s = s ≡ Exhausted

module _ (e : Option (List ℕ)) where
  extra_fair : (x : ExtraEdge) (k n : ℕ) → k < words_in (edge_bytes e) → words_in (edge_bytes e) - k + 1 ≤ n
      → Fair e n (extra_next x k).met (extra_next x k).phase
  unfolding Fair most_from
  extra_fair (Last p) k n h g = omega arith
  extra_fair (Internal p) k n h g = omega arith

  edge_fair : (k n : ℕ) → words_in (edge_bytes e) - k + 1 ≤ n → Fair e n (edge_next e k).met (edge_next e k).phase
  unfolding edge_next refuse Fair
  edge_fair k n g = go (edge_rule e k) refl
    where
      go : (m : Result ⊤ Reason) → edge_rule e k ≡ m
          → Fair e n (refuse m stop (extra_next (extra_of (be 4 (edge_bytes e) (4 * k))) k)).met
          (refuse m stop (extra_next (extra_of (be 4 (edge_bytes e) (4 * k))) k)).phase
      go (Ok u) q = let h = edge_there e k q in extra_fair _ k n (omega arith) g
      go (Err r) q = refl

  pub next_fair : (a b : ParentEdge) (s : Phase) → Fair e (most_from e s) (next_of a b e s).met (next_of a b e s).phase
  unfolding next_of Fair most_from first_next alone_next second_next
  next_fair Nothing Nothing First = refl
  next_fair Nothing (GraphPosition q) First = refl
  next_fair Nothing (ExtraEdgeIndex j) First = refl
  next_fair (GraphPosition p) b First = omega arith
  next_fair (ExtraEdgeIndex k) b First = refl
  next_fair a Nothing Second = refl
  next_fair a (GraphPosition q) Second = omega arith
  next_fair a (ExtraEdgeIndex k) Second = edge_fair k (words_in (edge_bytes e) + 2) (omega arith)
  next_fair a b (Edge k) = edge_fair k (words_in (edge_bytes e) - k + 1) (omega arith)
  next_fair a b Exhausted = refl

-- a turn of a count: x is what the step gave at phase s
module _ (a b : ParentEdge) (e : Option (List ℕ)) (s : Phase) {x : Next} (d : x ≡ next_of a b e s) where
  rest : rest_of a b e s ≡ follow x (rest_of a b e)
  rest = rest_follow a b e s ∙ ap (λ (y : Next). follow y (rest_of a b e)) (sym d)

  -- what is left at s, by what the step met
  pub rest_parent : {q : Parent} → x.met ≡ Ok (Some q) → rest_of a b e s ≡ parent q.position.0 (rest_of a b e x.phase)
  unfolding follow_met
  rest_parent h = rest ∙ rw h

  pub rest_stop : {r : Reason} → x.met ≡ Err r → rest_of a b e s ≡ stops r
  unfolding follow_met
  rest_stop h = rest ∙ rw h

  pub rest_end : x.met ≡ Ok None → rest_of a b e s ≡ ends fine
  unfolding follow_met
  rest_end h = rest ∙ rw h

  module _ (n : ℕ) where
    pub count_next : {q : Parent} → x.met ≡ Ok (Some q) → count_from n (rest_of a b e s) ≡ count_from (n + 1) (rest_of a b e x.phase)
    unfolding count_from
    count_next h = ap (count_from n) (rest_parent h)

    pub count_stop : {r : Reason} → x.met ≡ Err r → Err r ≡ count_from n (rest_of a b e s)
    unfolding count_from counted
    count_stop h = sym (ap (count_from n) (rest_stop h))

    pub count_end : x.met ≡ Ok None → Ok n ≡ count_from n (rest_of a b e s)
    unfolding count_from counted
    count_end h = sym (ap (count_from n) (rest_end h))

  pub next_less : {q : Parent} → x.met ≡ Ok (Some q) → most_from e x.phase < most_from e s
  unfolding Fair
  next_less h =
      let fair = subst (λ (y : Next). Fair e (most_from e s) y.met y.phase) (sym d) (next_fair e a b s) in
      subst (λ (m : Result (Option Parent) Reason). Fair e (most_from e s) m x.phase) h fair

-- a count of a walk: how many positions it answers, or the refusal that it ends with
count_walk : (n : ℕ) (w : Walked) → count_from n w ≡ counted (end_of w) (n + length (positions w))
unfolding count_from end_of positions
count_walk n (ends r) = ap (counted r) (omega arith)
count_walk n (parent p w) = count_walk (n + 1) w ∙ ap (counted (end_of w)) (omega arith)

pub count_is : (a b : ParentEdge) (e : Option (List ℕ))
    → count_of a b e ≡ counted (end_of (first_walk a b e)) (length (positions (first_walk a b e)))
unfolding count_of
count_is a b e =
    let w = first_walk a b e in
    count_walk 0 w ∙ ap (counted (end_of w)) (omega arith)
