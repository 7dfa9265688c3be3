-- What a verification's answer claims: demands 2 and 3 of a sound chain, its counts, and that the answer says no more and no less.
use Rattle.std.proofs.Common.{ℕ, ◌+◌, ◌-◌, ◌≤◌, ◌<◌, List, ◌≡◌, refl, sym, ap, subst, ◌∙◌, ◌⊎◌, arith, length, Result, Ok, Err}
use mathlib.Core.Option.{Option, none, some}
use Rattle.types.specs.declared.refusal.Refusal.{Refusal}
use Rattle.words.specs.Big.{Bytes}
use Rattle.words.proofs.Adds.{before_le}
use Rattle.ancestry.specs.Graph.{highest_below, cap, length_of, Numbered, Agrees}
use Rattle.ancestry.specs.Counts.{counts_of}
use Rattle.ancestry.proofs.Counts.{key_below, counts_length, counts_at, counts_sum}
use Rattle.ancestry.proofs.Graph.{agrees, highest_few}
use Rattle.list.specs.List.{records_of}
use Rattle.fit.specs.Fits.{ids_part}
use Rattle.file.specs.declared.File.{File}
use Rattle.access.specs.Lookup.{key_of, leading, Ordered}
use Rattle.commit.specs.Commits.{row_of}
use Rattle.steps.specs.Walks.{positions}
use Rattle.parents.specs.Walks.{walk_of}
use Rattle.graph.specs.Chain.{part_at, open_at, count_at, first_at, commits_in, file_of, pos_of}
use Rattle.ask.specs.Lookups.{lookup_of}
use Rattle.ask.specs.Theorems.{Sorted, Exact}
use Rattle.ask.proofs.Exactly.{exact}
use Rattle.graph.proofs.Standing.{stands}
use Rattle.walk.specs.Lists.{walk_in, walked_at, parents_at}
use Rattle.audit.specs.Files.{gen_in, gen_at, key_at}
use Rattle.audit.specs.Rules.{length_by, accepted, verification}
use Rattle.verify.specs.Facts.{SoundCommit, SoundFile, Sound, length_in, Counted, Claimed, ClaimsBy, Claims}
use Rattle.audit.specs.declared.Length.TheVariants.{Steps}
use Rattle.audit.specs.declared.Summary.{Summary}
use Rattle.audit.specs.declared.Verification.{Verification}
use Rattle.verify.proofs.Acceptance.{commits_few, sound_of, accepted_of, refused_not}

-- the length that is given is the length
pub length_back : (o : Option ℕ) → length_in (length_by o) ≡ o
unfolding length_in length_by
length_back (some n) = refl
length_back none = refl

module _ (z : ℕ) (c l : List ℕ) where
  -- the counts add up in any chain
  pub counted : Counted z c l (counts_of (key_at z c l) (commits_in z c l))
  unfolding key_at
  counted =
      record {
        size = counts_length (key_at z c l) (commits_in z c l);
        each = counts_at (key_at z c l) (commits_in z c l);
        sum = counts_sum (key_at z c l) (commits_in z c l) (λ g h. key_below _);
      }

  -- position g stands in an open file with the record f
  module _ (g : ℕ) {f : File} (e : open_at z c l (file_of z c l g) ≡ Ok f) where
    gen_at_lem : gen_at z c l g ≡ (row_of (part_at z c l (file_of z c l g)) f (pos_of z c l g)).generation
    unfolding gen_at gen_in
    gen_at_lem = rw e

    parents_at_lem : parents_at z c l g ≡ positions (walk_of (part_at z c l (file_of z c l g)) f (pos_of z c l g))
    unfolding walked_at walk_in
    parents_at_lem = rw e

  module _ (s : Sound z c l) where
    -- the commit at position g
    commit_at_lem : (g : ℕ) → g < commits_in z c l → (f : File) × (open_at z c l (file_of z c l g) ≡ Ok f)
        × SoundCommit (gen_at z c l) (first_at z c l (file_of z c l g + 1)) (part_at z c l (file_of z c l g)) f (pos_of z c l g)
    commit_at_lem g h =
        let (f, e, b) = (stands z c l).opens g h in
        (f, e, (s.file (file_of z c l g) ((stands z c l).file g h) f e).commit (pos_of z c l g) b)

    pub numbered : Numbered (commits_in z c l) (parents_at z c l) (gen_at z c l)
    numbered =
        record {
          few = omega (arith, commits_few z c l s.opens);
          inside = λ g p h m. (let (f, e, k) = commit_at_lem g h in
              omega (
                arith,
                k.inside p (rw (parents_at_lem g e) at m),
                before_le (count_at z c l) (file_of z c l g + 1) (records_of z l) (omega (arith, (stands z c l).file g h)),
              ));
          right = λ g h. (let (f, e, k) = commit_at_lem g h in gen_at_lem g e ∙ rw (parents_at_lem g e) k.right);
        }

    -- demand 3
    pub length_agrees : Agrees (commits_in z c l) (parents_at z c l)
        (length_in (length_by (length_of (highest_below (gen_at z c l) (commits_in z c l)))))
    length_agrees = rw length_back (agrees (commits_in z c l) (parents_at z c l) (gen_at z c l) numbered)

    -- the highest generation is at most the number of commits, or the cap
    pub highest_bound : (highest_below (gen_at z c l) (commits_in z c l) ≤ commits_in z c l)
        ⊎ (highest_below (gen_at z c l) (commits_in z c l) ≡ cap)
    highest_bound = highest_few numbered

    ordered : (k : ℕ) → k < records_of z l → (f : File) → open_at z c l k ≡ Ok f → Ordered (part_at z c l k) f
    unfolding leading
    ordered k h f e =
        let t : SoundFile z c l k (part_at z c l k) f = s.file k h f e in
        record {
          rises = λ i g. (let q : i + 1 - 1 ≡ i = omega arith in
              let a = (t.commit (i + 1) g).entry.above (omega arith) in
              subst (λ (j : ℕ). key_of f.width (ids_part (part_at z c l k) f) j < key_of f.width (ids_part (part_at z c l k) f) (i + 1)) q a);
          low = λ i g. (t.commit i g).entry.low;
          high = λ i g. (t.commit i g).entry.high;
        }

    pub sorted : Sorted z c l
    sorted = record { opens = s.opens; ordered = ordered }

    module _ (bc : Bytes c) where
      -- demand 2
      pub found_exactly : (x : List ℕ) → Bytes x → length x ≡ 20 → Exact z c l x (lookup_of z c l x)
      found_exactly = exact z c l sorted bc

      pub claimed : Claimed z c l (commits_in z c l) (length_by (length_of (highest_below (gen_at z c l) (commits_in z c l))))
          (counts_of (key_at z c l) (commits_in z c l))
      claimed = record { sound = s; commits = refl; counts = counted; found = found_exactly; agrees = length_agrees }

    -- a sound chain without commits is accepted with length 0
    pub no_commits : commits_in z c l ≡ 0 → (verification z c l).verdict ≡ Ok (record { commits = 0; length = Steps 0 })
    unfolding accepted length_by length_of highest_below
    no_commits e = ap (λ (v : Verification). v.verdict) (accepted_of z c l s) ∙ rw e

  -- what any answer claims
  pub claims : Bytes c → Claims z c l (verification z c l)
  unfolding ClaimsBy accepted
  claims bc = go _ refl
    where
      go : (v : Result Summary Refusal) → (verification z c l).verdict ≡ v → Claims z c l (verification z c l)
      go (Ok t) e = let s : Sound z c l = sound_of z c l e in subst (Claims z c l) (sym (accepted_of z c l s)) (claimed s bc)
      go (Err r) e = subst (λ (v : Result Summary Refusal). ClaimsBy z c l v (verification z c l).counts) (sym e) (refused_not z c l e)

  -- a result that is the definition's has the definition's theorem
  pub both : Bytes c → {r : Verification} → r ≡ verification z c l → (r ≡ verification z c l) × Claims z c l r
  both bc e = (e, subst (Claims z c l) (sym e) (claims bc))
