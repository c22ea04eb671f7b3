mod TwoShapes
