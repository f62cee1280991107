-- How often z is halved.
use Rattle.std.proofs.Common.{◌≡◌, ℕ, ◌*◌, ◌^◌, ◌<◌, ◌≤◌, inl, inr, arith, nat_le}
use Rattle.std.proofs.lemmas.Bool.{cases_lt, le-leb, lt-leb, leb-true}
use Rattle.cg_enc.proofs.Searches.{least-is, least-passes, least-least}
use Rattle.cg_meaning.specs.Taylor.{IsHalving}
use Rattle.cg_exp.specs.Exponential.{halvings}

-- h passes, and nothing below it does
pub halvings-found : (p q h : ℕ) → h ≤ 30 → 4 * p ≤ q * 2 ^ h → ((k : ℕ) → k < h → q * 2 ^ k < 4 * p) → halvings p q ≡ h
unfolding halvings
halvings-found p q h few small before = least-is _ 30 h few (le-leb (4 * p) (q * 2 ^ h) small) (λ k less. lt-leb (4 * p) (q * 2 ^ k) (before k less))

pub halvings-is : (p q h : ℕ) → IsHalving p q h → h ≤ 30 → halvings p q ≡ h
halvings-is p q h v few =
    halvings-found p q h few v.small (λ k less. elim (cases_lt (q * 2 ^ k) (4 * p)) [ inl lt ↦ lt | inr le ↦ absurd (omega (arith, v.least k le)) ])

pub halving_few : (p q h : ℕ) → p ≤ q * 2 ^ 28 → IsHalving p q h → h ≤ 30
halving_few p q h reach v = v.least 30 (omega arith)

pub halvings-IsHalving : (p q : ℕ) → p ≤ q * 2 ^ 28 → IsHalving p q (halvings p q)
unfolding halvings
halvings-IsHalving p q reach =
    let last : 4 * p ≤ q * 2 ^ 30 = omega arith in
    record {
      small = leb-true (4 * p) _ (least-passes (λ h. nat_le (4 * p) (q * 2 ^ h)) 30 30 (omega arith) (le-leb (4 * p) (q * 2 ^ 30) last));
      least = λ k small. least-least (λ h. nat_le (4 * p) (q * 2 ^ h)) 30 k (le-leb (4 * p) (q * 2 ^ k) small);
    }
