-- A search that finds the first place with a fault, or that there is none. Assumes nothing.
use Rattle.std.proofs.Common.{◌≡◌, ℕ, zero, suc, ◌<◌, Bool, true, false, ◌⊎◌, Some, None, Decides, Option, refl, inl, inr, arith}
use Rattle.std.proofs.lemmas.Bool.{cases_eq, false≢true}
use Rattle.cards.specs.Table.{pick}
use Rattle.cards.specs.Deal.{fault, or_else, first}

-- what was found is the first of the places of P, or P has no place
pub record Finds (P : ℕ → Type 0) (o : Option ℕ) : Type 0 where
  pub here : (p : ℕ) → o ≡ Some p → P p
  pub before : (p : ℕ) → o ≡ Some p → (q : ℕ) → q < p → P q → ⊥
  pub none : o ≡ None → (p : ℕ) → P p → ⊥

pub finds_same : {P Q : ℕ → Type 0} {o : Option ℕ} → ((p : ℕ) → P p → Q p) → ((p : ℕ) → Q p → P p) → Finds P o → Finds Q o
finds_same to from f = record {
  here = λ p e. to p (f.here p e);
  before = λ p e q l h. f.before p e q l (from q h);
  none = λ e p h. f.none e p (from p h);
}

pub finds_nothing : {P : ℕ → Type 0} → ((p : ℕ) → P p → ⊥) → Finds P None
finds_nothing f = record {
  here = λ p e. absurd (cc);
  before = λ p e q l. f q;
  none = λ e. f;
}

pub finds_fault : {Q : Type 0} (b : Bool) (x : ℕ) → Decides b Q → Finds (λ p. (p ≡ x) × Q) (fault b x)
finds_fault true x d = record {
  here = λ p e. (cc, d.0 refl);
  before = λ p e q l h. let s : p ≡ x = cc in omega arith;
  none = λ e. absurd (cc);
}
finds_fault false x d = finds_nothing (λ p h. false≢true (d.1 h.1))

-- one search and then another, all of whose places come later
pub finds_or : {P Q : ℕ → Type 0} (a b : Option ℕ) → ((p q : ℕ) → P p → Q q → p < q) → Finds P a → Finds Q b → Finds (λ p. P p ⊎ Q p) (or_else a b)
finds_or None b late f g = record {
  here = λ p e. inr (g.here p e);
  before = λ p e q l h. elim h [ inl x ↦ f.none refl q x | inr x ↦ g.before p e q l x ];
  none = λ e p h. elim h [ inl x ↦ f.none refl p x | inr x ↦ g.none e p x ];
}
finds_or (Some x) b late f g = record {
  here = λ p e. inl (f.here p e);
  before = λ p e q l h. elim h [ inl y ↦ f.before p e q l y | inr y ↦ omega (arith, late p q (f.here p e) y) ];
  none = λ e. absurd (cc);
}

pub finds_pick : {P Q : ℕ → Type 0} (b : Bool) (x : ℕ) (o : Option ℕ) → ((p q : ℕ) → P p → Q q → p < q) →
    Finds P (fault b x) → Finds Q o → Finds (λ p. P p ⊎ Q p) (pick b (Some x) o)
finds_pick true x o = finds_or (Some x) o
finds_pick false x o = finds_or None o

-- n searches, each of whose places come after those of the searches before it
pub finds_first : (P : ℕ → ℕ → Type 0) (f : ℕ → Option ℕ) (n : ℕ) →
    ((j k p q : ℕ) → j < k → P j p → P k q → p < q) → ((k : ℕ) → k < n → Finds (P k) (f k)) → Finds (λ p. (k : ℕ) × (k < n) × P k p) (first f n)
unfolding first
finds_first P f zero late each = finds_nothing (λ p h. omega arith)
finds_first P f (suc n) late each =
    finds_same
    (λ p h. elim h [ inl x ↦ (x.0, omega arith, x.2) | inr x ↦ (n, omega arith, x) ])
    (λ p h. grind (arith, cases_eq h.0 n))
    (finds_or (first f n) (f n) (λ p q x y. late x.0 n p q x.1 x.2 y)
    (finds_first P f n late (λ k l. each k (omega arith))) (each n (omega arith)))
