-- Opening a chain: the ways through it, and the order of its refusals.
use Rattle.std.proofs.Common.{ℕ, List, ◌≡◌, refl, sym, ap, ◌∙◌, length, Result, Ok, Err}
use Rattle.std.specs.Prelude.{⊤}
use Rattle.words.specs.First.{◌or◌, fine}
use Rattle.words.proofs.Rows.{refuse_some, refuse_none}
use Rattle.types.specs.Refusals.{refused_at}
use Rattle.types.specs.declared.refusal.Reason.{Reason}
use Rattle.types.specs.declared.refusal.Refusal.{Refusal}
use Rattle.list.specs.List.{records_of, list_rule, list_place}
use Rattle.list.proofs.Records.{list_sound}
use Rattle.graph.specs.Chain.{open_from, opened, opening_of, Listed}
use Rattle.graph.specs.Passes.{Seen, Surveyed, Viewed}
use Rattle.graph.specs.declared.survey.Survey.{Survey}

-- a refusal comes first; where there is none, what comes after
pub or_some : {E : Type 0} {a : Result ⊤ E} {e : E} (b : Result ⊤ E) → a ≡ Err e → (a or b) ≡ Err e
unfolding ◌or◌
or_some b h = rw h

pub or_next : {E : Type 0} {a : Result ⊤ E} (b : Result ⊤ E) → a ≡ fine → (a or b) ≡ b
unfolding ◌or◌
or_next b h = rw h

pub or_none : {E : Type 0} (a b : Result ⊤ E) → (a or b) ≡ fine → (a ≡ fine) × (b ≡ fine)
unfolding ◌or◌
or_none (Ok u) b h = (refl, h)
or_none (Err e) b h = absurd (cc)

-- a rule that refuses nothing, whatever the place
fine_at : (m : Result ⊤ Reason) (place : ℕ) → refused_at m place ≡ fine → m ≡ fine
fine_at (Ok u) place h = refl
fine_at (Err e) place h = absurd (cc)

module _ (z : ℕ) (c l : List ℕ) where
  -- the list is refused
  pub opened_list : {e : Refusal} → refused_at (list_rule z (length c) l) (list_place z (length c) l) ≡ Err e → opened z c l ≡ Err e
  unfolding opened
  opened_list h = or_some _ h

  -- it is not
  module _ (h : refused_at (list_rule z (length c) l) (list_place z (length c) l) ≡ fine) where
    pub opened_pass : opened z c l ≡ open_from z c l 0 (records_of z l)
    unfolding opened
    opened_pass = or_next _ h

    pub list_listed : Listed z c l (records_of z l)
    list_listed =
        let s = list_sound z (length c) l (fine_at _ _ h) in
        record { few = s.1; files = s.2; most = s.0 }

    pub view_passed : (g : ℕ) (r : Result Survey Refusal) → Surveyed z c l (records_of z l) g r → Viewed z c l g r
    view_passed g (Ok s) p = record { opens = opened_pass ∙ p.opens; commits = p.commits; kept = p.kept }
    view_passed g (Err e) p = opened_pass ∙ p

  -- a chain that opens: its list and each of its files
  module _ (y : opened z c l ≡ fine) where
    pub opened_halves : (refused_at (list_rule z (length c) l) (list_place z (length c) l) ≡ fine) × (open_from z c l 0 (records_of z l) ≡ fine)
    unfolding opened
    opened_halves = or_none _ _ y

    pub opened_listed : Listed z c l (records_of z l)
    opened_listed = list_listed opened_halves.0

  -- what opening answers
  pub opening_refused : {e : Refusal} → opened z c l ≡ Err e → Err e ≡ opening_of z c l
  unfolding opening_of
  opening_refused h = refuse_some Err _ h

  pub opening_whole : {g : ℕ} {s : Survey} → Seen z c l g s → Ok s.commits ≡ opening_of z c l
  unfolding opening_of
  opening_whole v = ap Ok v.commits ∙ sym (refuse_none Err _ v.opens)

-- how a chain is opened
pub ruleset opening = (opened_list, list_listed, view_passed, opening_refused, opening_whole)
