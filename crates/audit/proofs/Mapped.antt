-- What a refusal says that was mapped on its way out: the answer that it comes from was refused, and it is what that refusal is mapped to.
use Rattle.std.proofs.Common.{◌≡◌, refl, Result, Ok, Err}

pub mapped : {A E F : Type 0} (r : Result A E) (q : F) (f : E → F) → ((e : E) → r ≡ Err e → q ≡ f e) → ((x : A) → r ≡ Ok x → ⊥)
    → (e : E) × (r ≡ Err e) × (q ≡ f e)
mapped (Err e) q f h n = (e, refl, h e refl)
mapped (Ok x) q f h n = absurd (n x refl)
