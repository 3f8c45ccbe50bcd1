use Rattle.std.proofs.Common.{refl}
use Rattle.fw_kernel.specs.Places.{HasKernel}
use Rattle.fw_kernel.specs.declared.bytes.TheConstants.{KERNEL}
use Rattle.law_fw_link.proofs.FrameLaws.{sent_law, cut_law, got_law}
use Rattle.law_fw_link.proofs.frames.bare_kernel.Goals as goal

-- the kernel has its own bytes
itself : HasKernel KERNEL
itself p out = refl

pub returns : goal.returns
returns c = record { sends = sent_law KERNEL itself; cut = cut_law KERNEL itself; receives = got_law KERNEL itself }
