use Rattle.std.proofs.Common.{◌≡◌, refl, sym, ap, ◌∙◌, ◌+◌, ◌*◌, [], ◌∷◌, ◌++◌, Some, get_or, arith, length-set}
use Rattle.words.proofs.Fills.{grown}
use Rattle.name.specs.Names.{digit_of, hash_of}
use Rattle.name.proofs.Hex.{digits_more, byte_made}
use Rattle.name.proofs.hash.Goals as goal

pub loop-i-init : goal.loop-i-init
unfolding hash_of
loop-i-init c = (refl, refl, refl)

pub loop-i-preserved : goal.loop-i-preserved
unfolding hash_of
loop-i-preserved c =
    let d = c.args.digits.now in
    let l = c.loop-i in
    let a : Some c.in_ok-high.high ≡ digit_of (get_or d (2 * l.i) 0) = sym c.in_ok-high.was ∙ c.digit.ensures.value in
    let b : Some c.in_ok-low.low ≡ digit_of (get_or d (2 * l.i + 1) 0) = sym c.in_ok-low.was ∙ c.digit-in-loop-i.ensures.value in (
      digits_more d l.i a b (omega arith) l.invariant.0,
      simp length-set l.invariant.1,
      grown (hash_of d) l.hash l.i _ (omega arith) l.invariant.2 (ap (λ v. hash_of d l.i ++ (v ∷ [])) (byte_made d l.i a b)),
    )
