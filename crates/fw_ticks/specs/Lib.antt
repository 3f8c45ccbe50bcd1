pub mod JointRun
