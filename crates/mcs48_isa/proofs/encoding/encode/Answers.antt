use Rattle.mcs48_isa.proofs.Coded.{coded_operation, coded_length}
use Rattle.mcs48_isa.proofs.encoding.encode.Goals as goal

pub returns-in-Moves-clause-operation : goal.returns-in-Moves-clause-operation
returns-in-Moves-clause-operation c =
    coded_operation c.args.op c.requires.operands c.move_code.result (rw c.in-Moves.is c.move_code.ensures)

pub returns-in-Moves-clause-length : goal.returns-in-Moves-clause-length
returns-in-Moves-clause-length c = coded_length c.args.op c.requires.operands c.move_code.result (rw c.in-Moves.is c.move_code.ensures)

pub returns-in-Alu-clause-operation : goal.returns-in-Alu-clause-operation
returns-in-Alu-clause-operation c = coded_operation c.args.op c.requires.operands c.alu_code.result (rw c.in-Alu.is c.alu_code.ensures)

pub returns-in-Alu-clause-length : goal.returns-in-Alu-clause-length
returns-in-Alu-clause-length c = coded_length c.args.op c.requires.operands c.alu_code.result (rw c.in-Alu.is c.alu_code.ensures)

pub returns-in-Unary-clause-operation : goal.returns-in-Unary-clause-operation
returns-in-Unary-clause-operation c =
    coded_operation c.args.op c.requires.operands c.unary_code.result (rw c.in-Unary.is c.unary_code.ensures)

pub returns-in-Unary-clause-length : goal.returns-in-Unary-clause-length
returns-in-Unary-clause-length c = coded_length c.args.op c.requires.operands c.unary_code.result (rw c.in-Unary.is c.unary_code.ensures)

pub returns-in-Flow-clause-operation : goal.returns-in-Flow-clause-operation
returns-in-Flow-clause-operation c = coded_operation c.args.op c.requires.operands c.flow_code.result (rw c.in-Flow.is c.flow_code.ensures)

pub returns-in-Flow-clause-length : goal.returns-in-Flow-clause-length
returns-in-Flow-clause-length c = coded_length c.args.op c.requires.operands c.flow_code.result (rw c.in-Flow.is c.flow_code.ensures)

pub returns-in-PortIo-clause-operation : goal.returns-in-PortIo-clause-operation
returns-in-PortIo-clause-operation c =
    coded_operation c.args.op c.requires.operands c.port_code.result (rw c.in-PortIo.is c.port_code.ensures)

pub returns-in-PortIo-clause-length : goal.returns-in-PortIo-clause-length
returns-in-PortIo-clause-length c = coded_length c.args.op c.requires.operands c.port_code.result (rw c.in-PortIo.is c.port_code.ensures)
