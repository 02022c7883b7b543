use Rattle.std.proofs.Common.{◌≡◌, ◌∙◌, ◌+◌, ◌-◌, ◌++◌, ℕ, List, length, take, drop, ap₂, arith, le_refl}
use Rattle.firthnapkin_results.proofs.Writing.{fits_not, fits_part, fits_whole}
use Rattle.firthnapkin_results.proofs.buffer.write_bytes.Goals as goal

pub returns-then-buffer-at : goal.returns-then-buffer-at
returns-then-buffer-at c = fits_not c.args.buffer.now c.args.at c.args.bytes.now (omega (arith, c.if-buffer-at.true))

pub returns-then-bytes-left : goal.returns-then-bytes-left
returns-then-bytes-left c =
    let at = c.args.at in
    let b = c.args.buffer.now in
    let xs = c.args.bytes.now in
    let size : at + length xs - at ≡ length xs = omega arith in
    ap₂ (λ (ys : List ℕ) (k : ℕ). take at b ++ (ys ++ drop k (drop at b))) c.copy_from_slice.ensures.after size
    ∙ fits_whole at b xs (omega (arith, c.if-buffer-at.false)) (omega (arith, c.if-bytes-left.true))

pub returns : goal.returns
returns c =
    let at = c.args.at in
    let b = c.args.buffer.now in
    fits_part at (length b - at) b c.args.bytes.now _ (omega (arith, c.if-buffer-at.false))
    (omega (arith, c.if-bytes-left.false)) c.copy_from_slice-2.ensures.after (le_refl _)
