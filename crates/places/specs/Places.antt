-- Where the parts lie that the library hands out: the refusal, the place and the width of its own contracts.
use Rattle.std.specs.Prelude.{ℕ, ◌+◌, ◌-◌, ◌*◌, List, length, Result, ⊤}
use Rattle.std.specs.Borrow.{Bor}
use Rattle.words.specs.Part.{PartOf}
use Rattle.types.specs.Refusals.{refused_at}
use Rattle.chunk.specs.Index.{chunk_of, start_of, size_of, index_rule, index_place}
use Rattle.fit.specs.Fits.{fit_rule, ask_rule, AskedPart}
use Rattle.file.specs.declared.File.{File}
use Rattle.graph.specs.Chain.{start_at, open_at, file_of, pos_of, asked}
use Rattle.graph.specs.Chain.{width_in}
use Rattle.ask.specs.Questions.{id_in, tree_in}
use Rattle.flat.specs.declared.Part.{Part}
use Rattle.flat.specs.Images.{flat_part}

-- whatever the library hands out for a question with this rule, place and width is the part that r names
abbrev pub Names : {E : Type 0} → Bor (List ℕ) → Result ⊤ E → ℕ → ℕ → Part → Type 0
Names s m at size r = (q : Bor (List ℕ)) → AskedPart s m at size q → PartOf s r.at r.size q

-- ── one file of bytes l ──

-- the chunk with the id x, where the index is sound
abbrev pub chunk_part : List ℕ → ℕ → Part
chunk_part l x = flat_part (refused_at (index_rule l) (index_place l)) (start_of (chunk_of l x)) (size_of (chunk_of l x))

-- the id and the tree of commit i, base id j, and the trailer
abbrev pub id_part : List ℕ → File → ℕ → Part
id_part l f i = flat_part (refused_at (ask_rule l f f.commits i) 0) (f.oidl + i * f.width) f.width

abbrev pub tree_part : List ℕ → File → ℕ → Part
tree_part l f i = flat_part (refused_at (ask_rule l f f.commits i) 0) (f.cdat + i * (f.width + 16)) f.width

abbrev pub base_part : List ℕ → File → ℕ → Part
base_part l f j = flat_part (refused_at (ask_rule l f f.bases j) 0) (f.base + j * f.width) f.width

abbrev pub sum_part : List ℕ → File → Part
sum_part l f = flat_part (refused_at (fit_rule l f) 0) (length l - f.width) f.width

-- ── a chain of bytes c with the list l, whose records have z bytes ──

-- the id at position g, and the tree of its commit
abbrev pub chain_id : ℕ → List ℕ → List ℕ → ℕ → Part
chain_id z c l g =
    flat_part (asked z c l g)
    (start_at z c l (file_of z c l g) + id_in (open_at z c l (file_of z c l g)) (pos_of z c l g))
    (width_in (open_at z c l (file_of z c l g)))

abbrev pub chain_tree : ℕ → List ℕ → List ℕ → ℕ → Part
chain_tree z c l g =
    flat_part (asked z c l g)
    (start_at z c l (file_of z c l g) + tree_in (open_at z c l (file_of z c l g)) (pos_of z c l g))
    (width_in (open_at z c l (file_of z c l g)))
