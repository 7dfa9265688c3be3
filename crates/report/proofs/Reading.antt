-- Laws of the input: what each test of its parts decides, and what the program then prints.
use Rattle.std.proofs.Common.{ℕ, ◌+◌, ◌-◌, ◌≤◌, ◌<◌, Bool, true, false, ◌&&◌, List, [], ◌++◌, ◌≡◌, refl, sym, ap, ◌∙◌, ⊎_elim, arith, le-leb}
use Rattle.std.proofs.Common.{leb-true, leb, length, take, drop, length-drop, take_all, length-take-le}
use borrow.Author.Tests.{lt-leb}
use Rattle.std.specs.Prelude.{Some, None}
use Rattle.words.specs.First.{◌if◌else◌}
use Rattle.words.proofs.Numbers.{le_or_lt}
use Rattle.audit.specs.declared.Verification.{Verification}
use Rattle.audit.specs.Rules.{verification}
use Rattle.report.specs.Output.{line, answer_lines, size_of, chain_of, readable, chain_at, output_of}
use Rattle.report.specs.Puts.{Puts}
use Rattle.report.proofs.Putting.{start_size, start_holds}

third : (a b c d : Bool) → (a && b && c && d) ≡ true → c ≡ true
third true true true d e = refl
third true true false d e = e
third true false c d e = cc
third false b c d e = cc

module _ (input : List ℕ) where
  -- the tests of an input
  pub short : length input < 4 → readable input ≡ false
  unfolding readable
  short h = rw (lt-leb 4 (length input) h)

  pub large : 4 ≤ length input → 12288 < size_of input → readable input ≡ false
  unfolding readable
  large h g = rw (le-leb 4 (length input) h, lt-leb (size_of input) 12288 g)

  module _ (h : 4 ≤ length input) (g : size_of input ≤ 12288) where
    pub cut : length input < 4 + size_of input → readable input ≡ false
    unfolding readable
    cut f = rw (le-leb 4 (length input) h, le-leb (size_of input) 12288 g, lt-leb (4 + size_of input) (length input) f)

    module _ (f : 4 + size_of input ≤ length input) where
      whole : leb (length input - (4 + size_of input)) 49152 ≡ readable input
      unfolding readable
      whole =
          rw (
            le-leb 4 (length input) h,
            le-leb (size_of input) 12288 g,
            le-leb (4 + size_of input) (length input) f,
            length-drop (4 + size_of input) input,
          )

      pub broad : 49152 < length input - (4 + size_of input) → readable input ≡ false
      broad e = sym whole ∙ lt-leb (length input - (4 + size_of input)) 49152 e

      pub sound : length input - (4 + size_of input) ≤ 49152 → readable input ≡ true
      sound e = sym whole ∙ le-leb (length input - (4 + size_of input)) 49152 e

  -- so its chain starts nowhere, or behind the list
  pub nowhere : readable input ≡ false → None ≡ chain_at input
  unfolding chain_at ◌if◌else◌
  nowhere e = rw e

  pub somewhere : readable input ≡ true → Some (4 + size_of input) ≡ chain_at input
  unfolding chain_at ◌if◌else◌
  somewhere e = rw e

  -- the input is read: what the code learns from where its chain starts, and the parts that it takes are the chain and the list
  module _ {n : ℕ} (e : chain_at input ≡ Some n) where
    starts : (readable input ≡ true) × (n ≡ 4 + size_of input)
    unfolding chain_at ◌if◌else◌
    starts = go (readable input) refl e
      where
        go : (b : Bool) → readable input ≡ b → (Some (4 + size_of input) if b else None) ≡ Some n → (readable input ≡ true) × (n ≡ 4 + size_of input)
        go true h d = (h, cc)
        go false h d = absurd (cc)

    pub inside : (4 ≤ n) × (n ≤ length input)
    unfolding readable
    inside =
        let h : 4 + size_of input ≤ length input = leb-true (4 + size_of input) (length input) (third (leb 4 (length input)) _ _ _ starts.0) in
        (omega (arith, starts.1), omega (arith, starts.1, h))

    pub output_read : {v : Verification} → v ≡ verification 32 (take (length input - n) (drop n input)) (take (n - 4) (drop 4 input))
        → output_of input ≡ answer_lines v.verdict v.counts
    unfolding output_of ◌if◌else◌
    output_read p =
        let d : n - 4 ≡ size_of input = omega (arith, starts.1) in
        rw (starts.0, p, d, starts.1, take_all (length input - (4 + size_of input)) (chain_of input) (simp length-drop (omega arith)))

  pub output_not : readable input ≡ false → output_of input ≡ line "unreadable" []
  unfolding output_of ◌if◌else◌
  output_not e = rw e

  pub output_none : chain_at input ≡ None → output_of input ≡ line "unreadable" []
  unfolding chain_at ◌if◌else◌
  output_none e = output_not (go (readable input) e)
    where
      go : (b : Bool) → (Some (4 + size_of input) if b else None) ≡ None → b ≡ false
      go true d = absurd (cc)
      go false d = refl

  -- a text that stands at the start of the buffer is what the program prints
  pub printed : {k : ℕ} {out s o : List ℕ} {r : ℕ} → output_of input ≡ s → Puts k out 0 s o r
      → (r ≡ length (output_of input))
      × ((o ≡ output_of input ++ drop (length (output_of input)) out) × ((r ≤ length o) × (r ≡ length (take r o))))
  printed {o = o} {r = r} e a =
      let h : r ≤ length o = omega (arith, a.room, a.size) in
      rw e (start_size a, (start_holds a, (h, sym (length-take-le r o h))))

-- ── what is left unread ──

-- an input above the largest sizes of its parts
long : (l : List ℕ) → 61444 < length l → readable l ≡ false
long l h =
    ⊎_elim
    (λ (g : size_of l ≤ 12288). broad l (omega arith) g (omega arith) (omega arith))
    (λ (g : 12288 < size_of l). large l (omega arith) g)
    (le_or_lt (size_of l) 12288)

-- the first 61,445 bytes decide, one more than 4 + 12,288 + 49,152
pub beginning : (input : List ℕ) → output_of (take 61445 input) ≡ output_of input
beginning input =
    ⊎_elim
    (λ (h : length input ≤ 61445). ap output_of (take_all 61445 input h))
    (λ (h : 61445 < length input).
    let g : length (take 61445 input) ≡ 61445 = length-take-le 61445 input (omega arith) in
    output_not (take 61445 input) (long (take 61445 input) (omega arith)) ∙ sym (output_not input (long input (omega arith))))
    (le_or_lt (length input) 61445)
