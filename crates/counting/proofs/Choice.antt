-- What an answer says of the test that chose it. Assumes nothing.
use Rattle.std.proofs.Common.{◌≡◌, Bool, true, false, cond, Result, Ok, Err}
use Rattle.counting.proofs.Iterate.{by_bool}

module _ {A E : Type 0} (b : Bool) (x : A) (y : E) {r : Result A E} (e : r ≡ cond b (Ok x) (Err y)) where
  pub accepted : {a : A} → r ≡ Ok a → (b ≡ true) × (a ≡ x)
  accepted h = by_bool b (λ t. (t, cc (e, h, t))) (λ t. cc (e, h, t))

  pub refused : {q : E} → r ≡ Err q → (b ≡ false) × (q ≡ y)
  refused h = by_bool b (λ t. cc (e, h, t)) (λ t. (t, cc (e, h, t)))
