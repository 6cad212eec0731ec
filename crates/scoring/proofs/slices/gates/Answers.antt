-- `scoring::slices::gates` meets its contract: each operation is done bit by bit.
use Rattle.scoring.specs.Planes.{bit-and, bit-or, bit-xor}
use Rattle.scoring.specs.Slices.{Gated, gate_a, gate_c, gate_g, gate_h, gate_t, gate_v, bit-full}
use Rattle.scoring.proofs.slices.gates.Goals as goal

pub returns : goal.returns
unfolding Gated gate_a gate_c gate_g gate_h gate_t gate_v
returns c j h =
    (simp (bit-xor, bit-and, bit-full j h), simp (bit-xor, bit-and, bit-full j h), simp (bit-xor, bit-and, bit-full j h), simp (bit-xor, bit-or, bit-and, bit-full j h), simp (bit-xor, bit-or, bit-and, bit-full j h))
