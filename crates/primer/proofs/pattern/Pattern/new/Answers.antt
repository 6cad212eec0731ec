-- `primer::pattern::Pattern::new`: nothing is shifted out.
use Rattle.std.proofs.Common.{ℕ, ◌*◌, ◌%◌, ◌^◌, ◌<◌, ◌≡◌, ◌∙◌, one-mul, arith, shl_exact}

shl_one : (k : ℕ) → k < 31 → (1 * 2 ^ k) % 2 ^ 32 ≡ 2 ^ k
shl_one k h = shl_exact 1 k 32 (omega arith) (omega arith) ∙ one-mul (2 ^ k)
