mod Body
