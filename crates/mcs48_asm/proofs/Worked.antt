-- Each of the sources gives what is beside it: the definitions compute it.
use Rattle.std.specs.Prelude.{refl}
use Rattle.mcs48_asm.specs.Rows.{instructions, is_instruction, reserved, is_reserved}
use Rattle.mcs48_asm.specs.Places.{places}
use Rattle.mcs48_asm.specs.Examples.{examples, AreRight}

-- each worked source gives the bytes or the fault beside it
pub examples-right : AreRight examples
unfolding examples instructions is_instruction reserved is_reserved places
examples-right = (
  refl,
  (
    refl,
    (
      refl,
      (
        refl,
        (
          refl,
          (
            refl,
            (
              refl,
              (
                refl,
                (
                  refl,
                  (
                    refl,
                    (
                      refl,
                      (
                        refl,
                        (
                          refl,
                          (
                            refl,
                            (
                              refl,
                              (
                                refl,
                                (
                                  refl,
                                  (
                                    refl,
                                    (
                                      refl,
                                      (
                                        refl,
                                        (
                                          refl,
                                          (refl, (refl, (refl, (refl, (refl, (refl, (refl, (refl, (refl, (refl, (refl, tt))))))))))),
                                        ),
                                      ),
                                    ),
                                  ),
                                ),
                              ),
                            ),
                          ),
                        ),
                      ),
                    ),
                  ),
                ),
              ),
            ),
          ),
        ),
      ),
    ),
  ),
)
