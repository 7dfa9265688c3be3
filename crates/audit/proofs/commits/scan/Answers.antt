use Rattle.std.proofs.Common.{ℕ, ◌<◌, List, true, ◌≡◌, refl, ap, ◌∙◌, arith, Ok, Err}
use Rattle.std.proofs.lemmas.Grind.{common_steps}
use Rattle.types.specs.Refusals.{refusal}
use Rattle.types.specs.declared.refusal.Reason.{Reason}
use Rattle.list.specs.List.{records_of}
use Rattle.file.specs.Table.{opening}
use Rattle.file.specs.declared.File.{File}
use Rattle.fit.proofs.Opens.{opened}
use Rattle.tries.specs.Tries.{parts_of}
use Rattle.tries.proofs.Trials.{cut_is}
use Rattle.graph.specs.Chain.{part_at, open_at, count_at}
use Rattle.graph.proofs.Passing.{open_is}
use Rattle.audit.specs.declared.tables.Row.{Row}
use Rattle.audit.specs.Scans.{Tabled, part_by}
use Rattle.audit.proofs.Mapped.{mapped}
use Rattle.audit.proofs.Tabling.{part_by_lem, count_of}
use Rattle.audit.proofs.Trying.{CommitTold, commit_told, try_begins, try_stops, try_small, try_next, try_ends, try_few}
use Rattle.audit.proofs.commits.scan.Goals as goal
use Rattle.audit.proofs.commits.scan.Goals.{After-attempt, In_ok-tried, In_err-tried}

-- what each list says of the file that was cut by a table that is right for it: its bytes, that it opens, and how many commits it has
module _ {z : ℕ} {chain l s : List ℕ} {table : List Row} {i : ℕ} {f : File} (p : Tabled z chain l table) (h : i < records_of z l)
    (cutting : s ≡ part_by chain table i) (opens : opening s ≡ Ok f) where
  bytes : s ≡ part_at z chain l i
  bytes = cutting ∙ part_by_lem z _ l p _ h

  file : open_at z chain l i ≡ Ok f
  file = open_is z _ l _ bytes refl opens

  many : count_at z chain l i ≡ f.commits
  many = count_of z _ l _ file

-- commit k was tried by the file's own parts
told : (c : After-attempt) (z : ℕ) (l : List ℕ) → Tabled z c.args.chain.now l c.args.table.now → c.args.i < records_of z l
    → CommitTold z c.args.chain.now l c.args.i c.loop-k.k-counter c.attempt.result
told c z l p h =
    let q = c.requires.s_value.0 in
    let o = c.requires.s_value.1 in
    let cut = cut_is c.args.s.now c.args.f c.fan-fan.ensures.bytes c.ids-ids.ensures.bytes c.rows-rows.ensures.bytes c.edge-edge.ensures.bytes in
    commit_told z _ l _ (file p h q o) _ c.loop-k-test.true _ (cut ∙ ap (λ (b : List ℕ). parts_of b c.args.f) (bytes p h q o))
    c.row_in-row.ensures.is (c.attempt.ensures z l p h)

-- it was refused, at its place; or it was not
stopped : (c : In_err-tried) → (e : Reason) × (c.attempt.result ≡ Err e) × (c.in_err-tried.field-0.0 ≡ refusal e c.loop-k.k-counter)
stopped c =
    mapped c.attempt.result _ (λ (e : Reason). refusal e c.loop-k.k-counter)
    (λ e h. grind (arith, common_steps)) (λ x h. grind (arith, common_steps))

went : (c : In_ok-tried) → c.attempt.result ≡ Ok c.in_ok-tried.tried
went c = grind (arith, common_steps)

pub invariant_of-fit : goal.invariant_of-fit
invariant_of-fit c = record { fitted = (opened true _ c.requires.s_value.1).fitted }

pub loop-k-init : goal.loop-k-init
loop-k-init c = λ z l p h b. try_begins z _ l _ b

pub returns-in_err-tried : goal.returns-in_err-tried
returns-in_err-tried c =
    let at = goal.at.returns-in_err-tried c in
    λ z l p h b. let stops = try_stops z _ l _ h (c.loop-k.invariant z l p h b)
    (omega (arith, c.loop-k-test.true, many p h c.requires.s_value.0 c.requires.s_value.1)) (told at.After-attempt z l p h) in
    let (e, was, is) = stopped at.In_err-tried in
    grind (arith, stops e was, is)

pub overflow_add-tally : goal.overflow_add-tally
overflow_add-tally c =
    let at = goal.at.overflow_add-tally c in
    let h = c.requires.starts.home in
    let below : c.loop-k.k-counter < count_at h.z c.args.chain.now h.l c.args.i =
    omega (arith, c.loop-k-test.true, many h.tabled h.below c.requires.s_value.0 c.requires.s_value.1) in
    omega (
      arith,
      try_few h.z _ h.l _ h.tabled h.below _ below,
      try_small h.z _ h.l _ h.below (c.loop-k.invariant h.z h.l h.tabled h.below c.requires.starts.before) below
          (told at.After-attempt h.z h.l h.tabled h.below) (went at.In_ok-tried) c.key.ensures.0 c.key.ensures.1,
    )

pub loop-k-preserved : goal.loop-k-preserved
loop-k-preserved c =
    let at = goal.at.loop-k-preserved c in
    λ z l p h b. try_next z _ l _ h (c.loop-k.invariant z l p h b)
    (omega (arith, c.loop-k-test.true, many p h c.requires.s_value.0 c.requires.s_value.1)) (told at.After-attempt z l p h)
    (went at.In_ok-tried) c.key.ensures.0 c.key.ensures.1 c.max.ensures

pub returns : goal.returns
returns c =
    λ z l p h b. try_ends z _ l _ h (c.loop-k.invariant z l p h b) (omega (arith, c.loop-k-test.false, many p h c.requires.s_value.0 c.requires.s_value.1))
